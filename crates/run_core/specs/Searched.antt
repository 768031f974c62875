-- What the search for the line that ends the table leaves.
use Rattle.std.specs.Prelude.{◌≡◌, ℕ, ◌+◌, ◌-◌, ◌<◌, ◌≤◌, Bool, true, false, ◌&&◌, nat_le, List, []}
use Rattle.std.specs.Prelude.{◌++◌, length, take, drop, Some, None}
use Rattle.std.specs.Io.KnownBytes.{Consumes, IsAtEnd}
use Rattle.fisb_wire.specs.Faults.{Rose}
use Rattle.run_core.specs.declared.input.Input.{Input}
use Rattle.run_core.specs.declared.search.TableEnd.{TableEnd}
use Rattle.run_core.specs.declared.search.TableEnd.TheVariants.{Found, Last, Missing, Long, Failed}
use Rattle.run_core.specs.Limits.{table_limit, ring_limit}
use Rattle.run_core.specs.Lines.{lines_in, part_line}
use Rattle.run_core.specs.Opening.{opening_at, is_table_end}
use Rattle.run_core.specs.Run.{SourceEnd}

-- the line that begins at a place and has so many bytes ends the table
abbrev pub is_end_here : List ℕ → ℕ → ℕ → Bool
is_end_here bytes place size =
    nat_le place table_limit && is_table_end (take size (drop place bytes))

-- all that was taken is in the ring
pub record IsHeld (old new : SourceEnd) (input : Input) : Type 0 where
  pub taken : input.taken ≡ length input.ring.items
  pub consumed : Consumes old.left new.left input.ring.items

-- the table has so many bytes, whatever comes after the bytes taken
pub record IsTable (text : List ℕ) (size number : ℕ) : Type 0 where
  pub opened : (ended : Bool) (more : List ℕ) → opening_at 0 1 (lines_in ended (text ++ more))
      ≡ Some (record {
        size = size;
        number = number;
        later = lines_in ended (drop (size + 4) text ++ more);
      })
  pub part : (ended : Bool) (more : List ℕ) → part_line ended (text ++ more)
      ≡ part_line ended (drop (size + 4) text ++ more)
  pub within : size + 4 ≤ length text
  pub count : number ≤ size + 1

-- the last line, which has no newline, ends the table
pub record IsLast (text : List ℕ) (size number : ℕ) : Type 0 where
  pub opened : opening_at 0 1 (lines_in true text)
      ≡ Some (record { size = size; number = number; later = [] })
  pub within : size ≤ length text
  pub count : number ≤ size + 1

abbrev pub HasSearched : SourceEnd → SourceEnd → Input → TableEnd → Type 0
HasSearched old new input (Found size number) = IsHeld old new input
    × IsTable input.ring.items size number × (new.reads ≡ old.reads)
HasSearched old new input (Last size number) = IsHeld old new input
    × IsLast input.ring.items size number × IsAtEnd new.left × (new.reads ≡ old.reads)
HasSearched old new input Missing = IsHeld old new input
    × (opening_at 0 1 (lines_in true input.ring.items) ≡ None)
    × (length input.ring.items < ring_limit) × IsAtEnd new.left × (new.reads ≡ old.reads)
HasSearched old new input Long = IsHeld old new input
    × ((ended : Bool) (more : List ℕ)
    → opening_at 0 1 (lines_in ended (input.ring.items ++ more)) ≡ None)
    × (length input.ring.items ≡ ring_limit) × (new.reads ≡ old.reads)
HasSearched old new input Failed = IsHeld old new input
    × (opening_at 0 1 (lines_in false input.ring.items) ≡ None)
    × (length input.ring.items < ring_limit) × Rose old.reads new.reads

-- at the end of the input the bytes from a place on, which has the number, are its last line
abbrev pub IsLooked : List ℕ → ℕ → ℕ → TableEnd → Type 0
IsLooked bytes place number (Found size line) = ⊥
IsLooked bytes place number (Last size line) = (size ≡ place) × (line ≡ number)
    × (is_end_here bytes place (length bytes - place) ≡ true)
IsLooked bytes place number Missing = is_end_here bytes place (length bytes - place) ≡ false
IsLooked bytes place number Long = ⊥
IsLooked bytes place number Failed = ⊥
