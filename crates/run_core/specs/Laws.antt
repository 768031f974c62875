-- Laws of runs and of tasks.
use Rattle.std.specs.Prelude.{◌≡◌, ℕ, Bool, false, List, ◌++◌, Option, Some}
use Rattle.fisb_wire.specs.Ends.{IsReached}
use Rattle.run_core.specs.declared.status.Status.{Status}
use Rattle.run_core.specs.Work.{Work, Fault}
use Rattle.run_core.specs.Run.{Task, Ends, HasRun, IsDecided, IsComplete, task_of}

-- two tasks ask the same of all bytes
pub record Agrees (one other : Task) : Type 0 where
  pub fault : (ended : Bool) (bytes : List ℕ) → one.fault ended bytes ≡ other.fault ended bytes
  pub output : (ended : Bool) (bytes : List ℕ) → one.output ended bytes ≡ other.output ended bytes

-- a run of a task is a run of each task that asks the same
abbrev pub RunAgrees : Type 0
RunAgrees = (one other : Task) (old new : Ends) (status : Status)
    → Agrees one other → HasRun one old new status → HasRun other old new status

abbrev pub DecidedAgrees : Type 0
DecidedAgrees = (one other : Task) (old new : Ends) (status : Status)
    → Agrees one other → IsDecided one old new status → IsDecided other old new status

-- the whole begins with the piece
abbrev pub Begins : List ℕ → List ℕ → Type 0
Begins piece whole = (more : List ℕ) × (whole ≡ piece ++ more)

-- whatever comes after them, and however the input ends, a fault of some bytes stays the first one,
-- and what they give stays a prefix of the output: the whole of it where they have a fault
pub record IsStable (task : Task) : Type 0 where
  pub fault : (front more : List ℕ) (ended : Bool) (found : Fault)
      → task.fault false front ≡ Some found → task.fault ended (front ++ more) ≡ Some found
  pub begins : (front more : List ℕ) (ended : Bool)
      → Begins (task.output false front) (task.output ended (front ++ more))
  pub output : (front more : List ℕ) (ended : Bool) (found : Fault)
      → task.fault false front ≡ Some found
      → task.output ended (front ++ more) ≡ task.output false front

-- every command's task is stable
abbrev pub TasksAreStable : Type 0
TasksAreStable = (work : Work) → IsStable (task_of work)

-- a run of a stable task is decided by the whole input
abbrev pub RunsDecide : Type 0
RunsDecide = (task : Task) (old new : Ends) (status : Status)
    → IsStable task → HasRun task old new status → IsDecided task old new status

-- a run of a stable task is complete, for a sink whose reach is told by its bytes and its faults
abbrev pub RunsComplete : Type 0
RunsComplete = (task : Task) (reach : Option ℕ) (old new : Ends) (status : Status)
    → IsStable task → HasRun task old new status → IsReached reach new.written new.writes
    → IsComplete task reach old new status
