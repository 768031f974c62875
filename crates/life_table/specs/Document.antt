-- What a document says, read from its tree alone: the entries at its keys, what a word, a number of
-- words, a form, a product and a life may be, and the entries of the document itself. An entry is
-- looked at in the order in which its faults are told.
use Rattle.std.specs.Prelude.{ℕ, ◌+◌, ℤ, pos, int_lt, unsigned_abs, Bool, true, false, not, ◌&&◌}
use Rattle.std.specs.Prelude.{◌||◌, ◌==◌, nat_lt, nat_le, if◌then◌else◌, List, length, codes}
use Rattle.std.specs.Prelude.{Option, Some, None, is_some, option_and_then, Result, Ok, Err}
use Rattle.std.specs.List.{list_all}
use Rattle.std.specs.Ordering.{int_eq}
use Rattle.toml.specs.Data.{Data, string, integer, float, boolean, datetime, array, table, Items}
use Rattle.toml.specs.Data.{no_items, item, Members, no_members, member, get, as_integer, as_str}
use Rattle.toml.specs.Data.{as_array, as_table}
use Rattle.fisb_time.specs.declared.form.TimeForm.{TimeForm}
use Rattle.fisb_time.specs.declared.form.TimeForm.TheVariants.{Minute, Second, DayMinute, DaySecond}
use Rattle.fisb_time.specs.Moment.{day_seconds}
use Rattle.life_table.specs.Products.{regional_radar, conus_radar}
use Rattle.life_table.specs.LifeTable.{thirty_days}
use Rattle.life_table.specs.declared.fault.RowFault.{RowFault}
use Rattle.life_table.specs.declared.fault.RowFault.TheVariants.{Shape, Version, Late, Rows}

-- the value goes on, and the want of one is the fault
abbrev pub or_fault : {A B : Type 0} → RowFault → Option A → (A → Result B RowFault)
    → Result B RowFault
or_fault fault None go = Err fault
or_fault fault (Some x) go = go x

abbrev pub count_members : Members → ℕ
count_members no_members = 0
count_members (member key value more) = 1 + count_members more

-- how many members a table has; a value of another kind has none
abbrev pub member_count : Data → ℕ
member_count (table members) = count_members members
member_count (string s) = 0
member_count (integer z) = 0
member_count (float x) = 0
member_count (boolean b) = 0
member_count (datetime t) = 0
member_count (array items) = 0

abbrev pub integer_at : List ℕ → Data → Option ℤ
integer_at key value = option_and_then as_integer (get key value)

abbrev pub text_at : List ℕ → Data → Option (List ℕ)
text_at key value = option_and_then as_str (get key value)

abbrev pub is_table : Data → Bool
is_table value = is_some (as_table value)

abbrev pub all_tables : Items → Bool
all_tables no_items = true
all_tables (item value more) = is_table value && all_tables more

abbrev pub item_count : Items → ℕ
item_count no_items = 0
item_count (item value more) = 1 + item_count more

-- the rows of a value: it has to be an array of tables
abbrev pub rows_in : Items → Option Items
rows_in items = if all_tables items then Some items else None

abbrev pub tables_in : Option Data → Option Items
tables_in None = Some no_items
tables_in (Some value) = option_and_then rows_in (as_array value)

-- the array of tables at a key; an absent one is empty
abbrev pub tables_at : List ℕ → Data → Option Items
tables_at key value = tables_in (get key value)

-- A to Z, 0 to 9, '.', '/' and '-'
abbrev pub is_word_byte : ℕ → Bool
is_word_byte c =
    (nat_le 65 c && nat_le c 90) || (nat_le 48 c && nat_le c 57) || c == 46 || c == 47 || c == 45

abbrev pub is_word : List ℕ → Bool
is_word word = nat_le 1 (length word) && nat_le (length word) 16 && list_all is_word_byte word

abbrev pub key_words : ℤ → Option ℕ
key_words words = if int_eq words (pos 2) then Some 2 else if int_eq words (pos 3) then Some 3
    else None

abbrev pub form_of : ℤ → Option TimeForm
form_of form = if int_eq form (pos 0) then Some Minute else if int_eq form (pos 1) then Some Second
    else if int_eq form (pos 2) then Some DayMinute else if int_eq form (pos 3) then Some DaySecond
    else None

abbrev pub radar_product : ℤ → Option ℕ
radar_product product = if int_eq product (pos regional_radar) then Some regional_radar
    else if int_eq product (pos conus_radar) then Some conus_radar else None

-- a life in a form without a date ends, with all that may be late, within a day; another within
-- thirty days
abbrev pub is_within : ℕ → TimeForm → ℕ → Bool
is_within late Minute life = nat_le (life + late + 60) day_seconds
is_within late Second life = nat_le (life + late + 60) day_seconds
is_within late DayMinute life = nat_le life thirty_days
is_within late DaySecond life = nat_le life thirty_days

abbrev pub life_in : ℕ → TimeForm → ℤ → Option ℕ
life_in late form life = if int_lt life (pos 1) then None
    else if is_within late form (unsigned_abs life) then Some (unsigned_abs life) else None

-- the entries of the document itself
pub record Head : Type 0 where
  pub late : ℕ
  pub texts : Items
  pub radars : Items

abbrev pub one_if : Bool → ℕ
one_if true = 1
one_if false = 0

-- the keys that stand in a document that has the two that it needs
abbrev pub known_keys : Data → ℕ
known_keys value =
    2 + one_if (is_some (get (codes "text") value)) + one_if (is_some (get (codes "radar") value))

abbrev pub judged_head : Data → ℤ → ℤ → Items → Items → Result Head RowFault
judged_head value version late texts radars =
    if not (member_count value == known_keys value) then Err Shape
    else if not (int_eq version (pos 1)) then Err Version
    else if int_lt late (pos 0) then Err Late
    else if nat_lt 43200 (unsigned_abs late) then Err Late
    else if nat_lt 64 (item_count texts) then Err Rows
    else if nat_lt 2 (item_count radars) then Err Rows
    else Ok (record { late = unsigned_abs late; texts = texts; radars = radars })

unfoldable pub head : Data → Result Head RowFault
head value =
    or_fault Shape (integer_at (codes "version") value) (λ version.
    or_fault Shape (integer_at (codes "late") value) (λ late.
    or_fault Shape (tables_at (codes "text") value) (λ texts.
    or_fault Shape (tables_at (codes "radar") value) (λ radars.
    judged_head value version late texts radars))))
