-- Every table that a text writes keeps the rules.
use Rattle.std.proofs.Common.{◌≡◌, ℕ, ◌+◌, ◌≤◌, ◌==◌, pos, not, List, [], ◌∷◌, ◌++◌, length, Option, Some, None, Ok, ap, subst, inl, inr, codes, arith}
use Rattle.std.specs.Ordering.{int_eq}
use Rattle.std.specs.Prelude.{int_lt, nat_lt, unsigned_abs}
use Rattle.std.specs.Str.{is_utf8}
use Rattle.std.proofs.lemmas.Bool.{cases_Bool, ltb-false}
use Rattle.std.proofs.lemmas.List.{length-append}
use Rattle.list_members.specs.Tests.{ok_past_test}
use Rattle.toml.specs.Data.{Data, Items, no_items, item, Members, table}
use Rattle.toml.specs.Parse.{parse_document}
use Rattle.life_table.specs.LifeTable.{LifeTable, TextRow, RadarRow}
use Rattle.life_table.specs.Rules.{IsTable}
use Rattle.life_table.specs.Document.{Head, head, known_keys, member_count, integer_at, tables_at, item_count}
use Rattle.life_table.specs.RowsOf.{with_row_number, text_entry, radar_entry, text_rows, radar_rows}
use Rattle.life_table.specs.TableIn.{table_of_head, table_of_tree, table_of_document, table_in}
use Rattle.life_table.specs.declared.fault.RowFault.TheVariants.{Shape, Version, Late, Rows}
use Rattle.life_table.proofs.Accepted.{had, went_on, was_ok, written_table}

-- what a head keeps within
record IsHead (h : Head) : Type 0 where
  late : h.late ≤ 43200
  texts : item_count h.texts ≤ 64
  radars : item_count h.radars ≤ 2

head_within : (value : Data) (h : Head) → head value ≡ Ok h → IsHead h
unfolding head
head_within value h e0 =
    let (version, _, e1) = had Shape (integer_at (codes "version") value) _ h e0 in
    let (late, _, e2) = had Shape (integer_at (codes "late") value) _ h e1 in
    let (texts, _, e3) = had Shape (tables_at (codes "text") value) _ h e2 in
    let (radars, _, e4) = had Shape (tables_at (codes "radar") value) _ h e3 in
    let (_, e5) = ok_past_test (not (member_count value == known_keys value)) Shape _ h e4 in
    let (_, e6) = ok_past_test (not (int_eq version (pos 1))) Version _ h e5 in
    let (_, e7) = ok_past_test (int_lt late (pos 0)) Late _ h e6 in
    let (in_time, e8) = ok_past_test (nat_lt 43200 (unsigned_abs late)) Late _ h e7 in
    let (few_texts, e9) = ok_past_test (nat_lt 64 (item_count texts)) Rows _ h e8 in
    let (few_radars, e10) = ok_past_test (nat_lt 2 (item_count radars)) Rows _ h e9 in
    let entries : Head = record { late = unsigned_abs late; texts = texts; radars = radars } in
    let same : entries ≡ h = cc in
    subst IsHead same (record { late = ltb-false 43200 (unsigned_abs late) in_time; texts = ltb-false 64 (item_count texts) few_texts; radars = ltb-false 2 (item_count radars) few_radars })

-- each item gives a row
text_count : (late : ℕ) (rows : List TextRow) (items : Items) (all : List TextRow) → text_rows late rows items ≡ Ok all → length all ≡ length rows + item_count items
text_count late rows no_items all h = let same : rows ≡ all = cc in omega (arith, ap length same)
text_count late rows (item value more) all h =
    let (r, _, h') = went_on (with_row_number (length rows + 1) (text_entry late rows value)) (λ r. text_rows late (rows ++ r ∷ []) more) all h in
    omega (arith, text_count late (rows ++ r ∷ []) more all h', length-append rows (r ∷ []))

radar_count : (late before : ℕ) (rows : List RadarRow) (items : Items) (all : List RadarRow) → radar_rows late before rows items ≡ Ok all → length all ≡ length rows + item_count items
radar_count late before rows no_items all h = let same : rows ≡ all = cc in omega (arith, ap length same)
radar_count late before rows (item value more) all h =
    let (r, _, h') = went_on (with_row_number (before + length rows + 1) (radar_entry late rows value)) (λ r. radar_rows late before (rows ++ r ∷ []) more) all h in
    omega (arith, radar_count late before (rows ++ r ∷ []) more all h', length-append rows (r ∷ []))

head_keeps : (h : Head) (t : LifeTable) → IsHead h → table_of_head h ≡ Ok t → IsTable t
head_keeps h t within e =
    let (texts, read_texts, e1) = went_on (text_rows h.late [] h.texts) _ t e in
    let (radars, read_radars, e2) = went_on (radar_rows h.late (length texts) [] h.radars) _ t e1 in
    let whole : LifeTable = record { late = h.late; texts = texts; radars = radars } in
    let same : whole ≡ t = cc in
    let few_texts : length texts ≤ 64 = omega (arith, within.texts, text_count h.late [] h.texts texts read_texts) in
    let few_radars : length radars ≤ 2 = omega (arith, within.radars, radar_count h.late (length texts) [] h.radars radars read_radars) in
    subst IsTable same (written_table h.late (length texts) texts radars h.texts h.radars within.late few_texts few_radars read_texts read_radars)

tree_keeps : (tree : Data) (t : LifeTable) → table_of_tree tree ≡ Ok t → IsTable t
unfolding table_of_tree
tree_keeps tree t e =
    let (h, is_head, e1) = went_on (with_row_number 0 (head tree)) table_of_head t e in
    head_keeps h t (head_within tree h (was_ok 0 (head tree) h is_head)) e1

document_keeps : (document : Option Members) (t : LifeTable) → table_of_document document ≡ Ok t → IsTable t
document_keeps None t e = absurd (cc)
document_keeps (Some members) t e = tree_keeps (table members) t e

pub written_keeps : (text : List ℕ) (t : LifeTable) → table_in text ≡ Ok t → IsTable t
unfolding table_in
written_keeps text t e =
    elim (cases_Bool (is_utf8 text)) [
      | inl utf8 ↦ document_keeps (parse_document text) t (rw utf8 at e)
      | inr other ↦ let e' = rw other at e in absurd (cc)
    ]
