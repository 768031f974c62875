-- Where a run stands between two lines, for all that may still come.
use Rattle.std.specs.Prelude.{◌≡◌, ℕ, ◌+◌, ◌≤◌, Bool, List, ◌++◌, length, drop}
use Rattle.std.specs.Io.KnownBytes.{Consumes, Appends}
use Rattle.run_core.specs.declared.input.Input.{Input}
use Rattle.run_core.specs.Work.{Work}
use Rattle.run_core.specs.Lines.{lines_in, part_line}
use Rattle.run_core.specs.Opening.{opening_at}
use Rattle.run_core.specs.Acted.{first_fault, acted_text, fault_of, given_of}
use Rattle.run_core.specs.Run.{Ends}

-- The actor stands for the lines acted on. The bytes taken are `text`; those that are not yet acted
-- on are in the ring, after `start` bytes, and their first line has the number. What was written is
-- what the lines acted on gave.
pub record IsAt (work : Work) (table : List ℕ) (stands : List (List ℕ) → Type 0) (number : ℕ)
    (old now : Ends) (input : Input) : Type 0 where
  pub past : List (List ℕ)
  pub start : ℕ
  pub text : List ℕ
  pub so_far : List ℕ
  pub stands_for : stands past
  pub fault : (ended : Bool) (more : List ℕ) → first_fault work ended (text ++ more)
      ≡ fault_of (work.told table) past number start (lines_in ended (input.ring.items ++ more))
      (part_line ended (input.ring.items ++ more))
  pub gives : (ended : Bool) (more : List ℕ) → acted_text work ended (text ++ more)
      ≡ so_far ++ given_of (work.told table) past (lines_in ended (input.ring.items ++ more))
  pub place : start + length input.ring.items ≡ length text
  pub taken : input.taken ≡ length text
  pub consumed : Consumes old.left now.left text
  pub written : Appends old.written now.written so_far
  pub reads : now.reads ≡ old.reads
  pub writes : now.writes ≡ old.writes

-- Before the table was found the ring holds all bytes taken. No line that begins before `place`
-- ends the table, and the line that begins there has the number.
pub record IsSought (text : List ℕ) (place number : ℕ) : Type 0 where
  pub opened : (ended : Bool) (more : List ℕ) → opening_at 0 1 (lines_in ended (text ++ more))
      ≡ opening_at place number (lines_in ended (drop place text ++ more))
  pub part : (ended : Bool) (more : List ℕ) → part_line ended (text ++ more)
      ≡ part_line ended (drop place text ++ more)
  pub within : place ≤ length text
  pub count : number ≤ place + 1

-- all that was taken is in the ring, and nothing was written
pub record IsFilled (old now : Ends) (input : Input) : Type 0 where
  pub taken : input.taken ≡ length input.ring.items
  pub consumed : Consumes old.left now.left input.ring.items
  pub written : now.written ≡ old.written
  pub reads : now.reads ≡ old.reads
  pub writes : now.writes ≡ old.writes
