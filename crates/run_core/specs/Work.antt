-- What a command is: the meaning of its table, of its lines and of a refusal, over their bytes.
use Rattle.std.specs.Prelude.{ℕ, List, Option, Result}
use Rattle.refusal_core.specs.declared.reason.Reason.{Reason}

pub record Work : Type 0 where
  -- what is wrong with the bytes of a table
  pub opened : List ℕ → Option Reason
  -- under the table of these bytes, after the lines acted on before, the newest first: the text
  -- that a line gives, or the first reason against it
  pub told : List ℕ → List (List ℕ) → List ℕ → Result (List ℕ) Reason
  -- what is written of a line that is refused
  pub refusal : ℕ → Reason → List ℕ

-- a refused line's number, from 1, and the first reason against it
pub record Fault : Type 0 where
  pub line : ℕ
  pub reason : Reason
  -- how many bytes of the input stand before the line; none where the table or line 1 is at fault
  pub start : ℕ
