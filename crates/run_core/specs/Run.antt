-- What a run answers and writes, by the bytes that it took from its source.
use Rattle.std.specs.Prelude.{◌≡◌, ◌≢◌, ℕ, ◌+◌, ◌<◌, ◌≤◌, Bool, true, false, ◌⊎◌, nat_le}
use Rattle.std.specs.Prelude.{if◌then◌else◌, List, ◌++◌, length, take, Option, Some, None, IfSome}
use Rattle.std.specs.Prelude.{Result, OnErr}
use Rattle.std.specs.Io.KnownBytes.{Consumes, Appends, IsAtEnd}
use Rattle.fisb_wire.specs.Faults.{Rose}
use Rattle.run_core.specs.declared.status.Status.{Status}
use Rattle.run_core.specs.declared.status.Status.TheVariants.{Done, Usage, Refused, ReadFault}
use Rattle.run_core.specs.declared.status.Status.TheVariants.{WriteFault, TooLong, NoMemory}
use Rattle.run_core.specs.Limits.{input_limit, ring_limit}
use Rattle.run_core.specs.Work.{Work, Fault}
use Rattle.run_core.specs.Acted.{first_fault, output_of}

-- What is to be answered and written: the fault and the output of some bytes, by whether the input
-- ended after them.
pub record Task : Type 0 where
  pub fault : Bool → List ℕ → Option Fault
  pub output : Bool → List ℕ → List ℕ

abbrev pub task_of : Work → Task
task_of work = record { fault = first_fault work; output = output_of work }

-- what a source has left and a sink holds, where they tell it, and how many of their calls failed
pub record Ends : Type 0 where
  pub left : Option (List ℕ)
  pub reads : ℕ
  pub written : Option (List ℕ)
  pub writes : ℕ

abbrev pub ends : Option (List ℕ) → ℕ → Option (List ℕ) → ℕ → Ends
ends left reads written writes =
    record { left = left; reads = reads; written = written; writes = writes }

-- what a source alone has left, where it tells it, and how many of its reads failed
pub record SourceEnd : Type 0 where
  pub left : Option (List ℕ)
  pub reads : ℕ

abbrev pub source_end : Option (List ℕ) → ℕ → SourceEnd
source_end left reads = record { left = left; reads = reads }

-- what a sink alone holds, where it tells it, and how many of its writes failed
pub record SinkEnd : Type 0 where
  pub written : Option (List ℕ)
  pub writes : ℕ

abbrev pub sink_end : Option (List ℕ) → ℕ → SinkEnd
sink_end written writes = record { written = written; writes = writes }

-- how the reading of an input ended: at its end, at a read that failed, at a byte past the limit,
-- or before any of these, where no more had to be read
pub data Ending : Type 0 where
  at_end : Ending
  failed : Ending
  full : Ending
  stopped : Ending

abbrev pub is_end : Ending → Bool
is_end at_end = true
is_end failed = false
is_end full = false
is_end stopped = false

-- the reading ended so, after so many bytes; no read failed where it did not end at a failed one
abbrev pub HasEnded : Ending → Ends → Ends → ℕ → Type 0
HasEnded at_end old new size =
    IsAtEnd new.left × (new.reads ≡ old.reads) × (size ≤ input_limit)
HasEnded failed old new size = Rose old.reads new.reads × (size ≤ input_limit)
HasEnded full old new size = (new.reads ≡ old.reads) × (size ≡ input_limit + 1)
HasEnded stopped old new size = (new.reads ≡ old.reads) × (size ≤ input_limit)

-- the bytes that are acted on, of those taken: all within the limit
unfoldable pub acted_part : List ℕ → List ℕ
acted_part taken = take input_limit taken

-- the status without a fault tells how the reading ended
abbrev pub IsEnding : Ending → Status → Type 0
IsEnding at_end status = status ≡ Done
IsEnding failed status = status ≡ ReadFault
IsEnding full status = status ≡ TooLong
IsEnding stopped status = ⊥

abbrev pub IsRefusal : Fault → Status → Type 0
IsRefusal fault Done = ⊥
IsRefusal fault Usage = ⊥
IsRefusal fault (Refused line why) = (fault.line ≡ line) × (fault.reason ≡ why)
IsRefusal fault ReadFault = ⊥
IsRefusal fault WriteFault = ⊥
IsRefusal fault TooLong = ⊥
IsRefusal fault NoMemory = ⊥

-- the status is the refusal of the fault, where there is one
abbrev pub IsVerdict : Ending → Option Fault → Status → Type 0
IsVerdict ending None status = IsEnding ending status
IsVerdict ending (Some fault) status = IsRefusal fault status

-- at most so many bytes were taken from the refused line on
abbrev pub IsNear : ℕ → Option Fault → Type 0
IsNear size None = Unit {0}
IsNear size (Some fault) = size ≤ fault.start + ring_limit

-- these bytes were taken until the reading ended so
pub record HasTaken (old new : Ends) (taken : List ℕ) (ending : Ending) : Type 0 where
  pub consumed : Consumes old.left new.left taken
  pub ended : HasEnded ending old new (length taken)

-- the fault and the output of the bytes taken
abbrev pub taken_fault : Task → List ℕ → Ending → Option Fault
taken_fault task taken ending = task.fault (is_end ending) (acted_part taken)

abbrev pub taken_output : Task → List ℕ → Ending → List ℕ
taken_output task taken ending = task.output (is_end ending) (acted_part taken)

-- the answer is the verdict on the bytes taken, their output is exactly what was written, and no
-- write failed
pub record IsAnswer (task : Task) (old new : Ends) (status : Status) (taken : List ℕ)
    (ending : Ending)
    : Type 0 where
  pub took : HasTaken old new taken ending
  pub verdict : IsVerdict ending (taken_fault task taken ending) status
  pub near : IsNear (length taken) (taken_fault task taken ending)
  pub written : Appends old.written new.written (taken_output task taken ending)
  pub unfailed : new.writes ≡ old.writes

abbrev pub HasAnswered : Task → Ends → Ends → Status → Type 0
HasAnswered task old new status =
    (taken : List ℕ) × (ending : Ending) × IsAnswer task old new status taken ending

-- known bytes grow by a prefix of the piece
abbrev pub AppendsFront : Option (List ℕ) → Option (List ℕ) → List ℕ → Type 0
AppendsFront before after piece =
    (size : ℕ) × (size ≤ length piece) × Appends before after (take size piece)

-- A sink that tells what it holds, and surely takes more bytes than these and the piece, takes the
-- piece whole.
abbrev pub IsTakenWhole : {A F : Type 0} → Option ℕ → Option (List ℕ) → List ℕ → Result A F
    → Type 0
IsTakenWhole reach written piece result = (before : List ℕ) (room : ℕ)
    → written ≡ Some before → reach ≡ Some room → length (before ++ piece) < room
    → OnErr result ⊥

-- a prefix of the output of the bytes taken was written
pub record IsFront (task : Task) (old new : Ends) (taken : List ℕ) (ending : Ending) : Type 0 where
  pub took : HasTaken old new taken ending
  pub written : AppendsFront old.written new.written (taken_output task taken ending)

abbrev pub HasWrittenFront : Task → Ends → Ends → Type 0
HasWrittenFront task old new =
    (taken : List ℕ) × (ending : Ending) × IsFront task old new taken ending

-- How a run of the task went. `Usage` is none of its answers.
abbrev pub HasRun : Task → Ends → Ends → Status → Type 0
HasRun task old new Done = HasAnswered task old new Done
HasRun task old new Usage = ⊥
HasRun task old new (Refused line why) = HasAnswered task old new (Refused line why)
HasRun task old new ReadFault = HasAnswered task old new ReadFault
HasRun task old new WriteFault = Rose old.writes new.writes × HasWrittenFront task old new
HasRun task old new TooLong = HasAnswered task old new TooLong
HasRun task old new NoMemory = (new.writes ≡ old.writes) × HasWrittenFront task old new

-- how the reading of an input ends where no read fails
abbrev pub ending_of : List ℕ → Ending
ending_of input = if nat_le (length input) input_limit then at_end else full

-- the verdict on a whole input, and exactly its output was written; memory that is not found may
-- stand in its place
abbrev pub IsJudged : Task → Ends → Ends → List ℕ → Status → Type 0
IsJudged task old new input status = (status ≡ NoMemory)
    ⊎ (IsVerdict (ending_of input) (taken_fault task input (ending_of input)) status
    × Appends old.written new.written (taken_output task input (ending_of input)))

-- where the source tells its input and neither count of faults rose, the answer is the verdict on
-- the whole input
abbrev pub IsDecided : Task → Ends → Ends → Status → Type 0
IsDecided task old new status = IfSome old.left (λ input. (Rose old.reads new.reads → ⊥)
    → (Rose old.writes new.writes → ⊥) → IsJudged task old new input status)

-- Where the source tells its input and no read failed, and the sink tells what it holds and surely
-- takes more bytes than these and the output of the whole input, no end failed, and the answer is
-- the verdict on the whole input.
abbrev pub IsComplete : Task → Option ℕ → Ends → Ends → Status → Type 0
IsComplete task reach old new status = (input before : List ℕ) (room : ℕ)
    → old.left ≡ Some input → old.written ≡ Some before → reach ≡ Some room
    → (Rose old.reads new.reads → ⊥)
    → length (before ++ taken_output task input (ending_of input)) < room
    → (status ≢ ReadFault) × (status ≢ WriteFault) × IsJudged task old new input status
