-- How many members and items a tree has, and which of its arrays are arrays of tables, over the values that hold it.
use Rattle.std.proofs.Common.{◌≡◌, ◌&&◌, List, [], ◌∷◌, length, String, Global, refl, ap, arith, BTreeMap}
use Rattle.std.specs.List.{list_all}
use Rattle.toml.specs.View.{view, items_view, members_view}
use Rattle.toml.specs.declared.value.Value.{Value, Table}
use Rattle.toml.proofs.Views.{view-Table}
use Rattle.life_table.specs.Document.{count_members, member_count, item_count, is_table, all_tables}

pub count_view : (es : List (String Global × Value)) → count_members (members_view es) ≡ length es
count_view [] = refl
count_view (e ∷ es) = omega (arith, count_view es)

pub table_members : (m : BTreeMap (String Global) Value) → member_count (view (Table m)) ≡ length m.entries
table_members m = rw (view-Table m) (count_view m.entries)

pub count_items : (vs : List Value) → item_count (items_view vs) ≡ length vs
count_items [] = refl
count_items (v ∷ vs) = omega (arith, count_items vs)

pub tables_view : (vs : List Value) → all_tables (items_view vs) ≡ list_all (λ v. is_table (view v)) vs
tables_view [] = refl
tables_view (v ∷ vs) = ap (λ b. is_table (view v) && b) (tables_view vs)
