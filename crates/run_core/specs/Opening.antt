-- How an input opens: the bytes of a table, and a line `---` after them.
use Rattle.std.specs.Prelude.{ℕ, ◌+◌, Bool, nat_lt, nat_le, if◌then◌else◌, List, [], ◌∷◌, length}
use Rattle.std.specs.Prelude.{Option, Some, None, codes}
use Rattle.std.specs.Str.{bytes_eq}
use Rattle.refusal_core.specs.declared.reason.Reason.TheVariants.{TableLong, NoTable}
use Rattle.run_core.specs.Limits.{table_limit, ring_limit}
use Rattle.run_core.specs.Work.{Fault}

abbrev pub is_table_end : List ℕ → Bool
is_table_end line = bytes_eq line (codes "---")

-- the first line `---`: how many bytes stand before it, its number, and the lines after it
pub record Opening : Type 0 where
  pub size : ℕ
  pub number : ℕ
  pub later : List (List ℕ)

-- among lines of which the first begins at this place of the input and has this number; the line
-- begins within the limit of a table
abbrev pub opening_at : ℕ → ℕ → List (List ℕ) → Option Opening
opening_at place number [] = None
opening_at place number (line ∷ later) = if nat_lt table_limit place then None
    else (if is_table_end line then Some (record { size = place; number = number; later = later })
    else opening_at (place + (length line + 1)) (number + 1) later)

-- without an opening an input is at fault once it is too long for one, or has ended
abbrev pub unopened_fault : Bool → ℕ → Option Fault
unopened_fault ended size =
    if nat_le ring_limit size then Some (record { line = 1; reason = TableLong; start = 0 })
    else (if ended then Some (record { line = 1; reason = NoTable; start = 0 }) else None)
