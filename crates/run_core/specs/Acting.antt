-- What acting on one line leaves, or a refusal.
use Rattle.std.specs.Prelude.{◌≡◌, ℕ, List, Result, Ok, Err}
use Rattle.std.specs.Io.KnownBytes.{Appends}
use Rattle.fisb_wire.specs.Faults.{Rose}
use Rattle.refusal_core.specs.declared.reason.Reason.{Reason}
use Rattle.run_core.specs.declared.status.Status.{Status}
use Rattle.run_core.specs.declared.status.Status.TheVariants.{Done, Usage, Refused, ReadFault}
use Rattle.run_core.specs.declared.status.Status.TheVariants.{WriteFault, TooLong, NoMemory}
use Rattle.run_core.specs.Work.{Work}
use Rattle.run_core.specs.Run.{SinkEnd, AppendsFront}

-- what the reading of a line gives to write: what the line gives, or its refusal
abbrev pub text_by : Work → ℕ → Result (List ℕ) Reason → List ℕ
text_by work number (Ok text) = text
text_by work number (Err reason) = work.refusal number reason

-- why a run stopped at the line of this number, and what was written then
abbrev pub HasStoppedOn : Work → ℕ → Result (List ℕ) Reason → SinkEnd → SinkEnd → Status → Type 0
HasStoppedOn work number read old new Done = ⊥
HasStoppedOn work number read old new Usage = ⊥
HasStoppedOn work number read old new (Refused line why) = (line ≡ number) × (read ≡ Err why)
    × Appends old.written new.written (work.refusal number why) × (new.writes ≡ old.writes)
HasStoppedOn work number read old new ReadFault = ⊥
HasStoppedOn work number read old new WriteFault = Rose old.writes new.writes
    × AppendsFront old.written new.written (text_by work number read)
HasStoppedOn work number read old new TooLong = ⊥
HasStoppedOn work number read old new NoMemory = (new.writes ≡ old.writes)
    × AppendsFront old.written new.written (text_by work number read)

-- the line gave this text, and exactly that was written
pub record HasActedAs (read : Result (List ℕ) Reason) (stands : Type 0) (old new : SinkEnd)
    (text : List ℕ) : Type 0 where
  pub read_is : read ≡ Ok text
  pub stands_for : stands
  pub written : Appends old.written new.written text
  pub unfailed : new.writes ≡ old.writes

abbrev pub HasActedOn : Work → ℕ → Result (List ℕ) Reason → Type 0 → SinkEnd → SinkEnd
    → Result (Unit {0}) Status → Type 0
HasActedOn work number read stands old new (Ok done) =
    (text : List ℕ) × HasActedAs read stands old new text
HasActedOn work number read stands old new (Err status) =
    HasStoppedOn work number read old new status
