-- What a run tells of the counts of faults of its source and its sink.
use Rattle.std.proofs.Common.{◌≡◌, ℕ, ◌-◌, ◌^◌, ◌≤◌, Option, Some, None, subst, arith}
use Rattle.fisb_wire.specs.Faults.{Rose}
use Rattle.run_core.specs.declared.status.Status.{Status}
use Rattle.run_core.specs.declared.status.Status.TheVariants.{Done, Usage, Refused, ReadFault, WriteFault, TooLong, NoMemory}
use Rattle.run_core.specs.Work.{Fault}
use Rattle.run_core.specs.Run.{Task, Ends, Ending, at_end, failed, full, stopped, HasRun, HasEnded, IsVerdict, taken_fault}

-- a count that rose, or is the same, is not less
rose-later : (before after : ℕ) → before ≤ 2 ^ 64 - 1 → Rose before after → before ≤ after
rose-later before after bound rose = omega (arith, bound, rose)

same-later : (before after : ℕ) → after ≡ before → before ≤ after
same-later before after same = omega (arith, same)

ended-later : (ending : Ending) (old new : Ends) (size : ℕ) → old.reads ≤ 2 ^ 64 - 1 → HasEnded ending old new size
    → old.reads ≤ new.reads
ended-later at_end old new size bound ended = same-later old.reads new.reads ended.1
ended-later failed old new size bound ended = rose-later old.reads new.reads bound ended.0
ended-later full old new size bound ended = same-later old.reads new.reads ended.0
ended-later stopped old new size bound ended = same-later old.reads new.reads ended.0

-- the count of the source's faults never falls
pub reads-later : (task : Task) (old new : Ends) (status : Status) → old.reads ≤ 2 ^ 64 - 1
    → HasRun task old new status → old.reads ≤ new.reads
reads-later task old new Done bound h = ended-later h.1 old new _ bound h.2.took.ended
reads-later task old new Usage bound h = absurd h
reads-later task old new (Refused line why) bound h = ended-later h.1 old new _ bound h.2.took.ended
reads-later task old new ReadFault bound h = ended-later h.1 old new _ bound h.2.took.ended
reads-later task old new WriteFault bound h = let front = h.1 in ended-later front.1 old new _ bound front.2.took.ended
reads-later task old new TooLong bound h = ended-later h.1 old new _ bound h.2.took.ended
reads-later task old new NoMemory bound h = let front = h.1 in ended-later front.1 old new _ bound front.2.took.ended

-- nor that of the sink's
pub writes-later : (task : Task) (old new : Ends) (status : Status) → old.writes ≤ 2 ^ 64 - 1
    → HasRun task old new status → old.writes ≤ new.writes
writes-later task old new Done bound h = same-later old.writes new.writes h.2.unfailed
writes-later task old new Usage bound h = absurd h
writes-later task old new (Refused line why) bound h = same-later old.writes new.writes h.2.unfailed
writes-later task old new ReadFault bound h = same-later old.writes new.writes h.2.unfailed
writes-later task old new WriteFault bound h = rose-later old.writes new.writes bound h.0
writes-later task old new TooLong bound h = same-later old.writes new.writes h.2.unfailed
writes-later task old new NoMemory bound h = same-later old.writes new.writes h.0

-- a read fault tells of a read that failed
fault-rose : (ending : Ending) (old new : Ends) (size : ℕ) (fault : Option Fault) → HasEnded ending old new size
    → IsVerdict ending fault ReadFault → Rose old.reads new.reads
fault-rose ending old new size (Some found) ended v = absurd v
fault-rose at_end old new size None ended v = cc
fault-rose failed old new size None ended v = ended.0
fault-rose full old new size None ended v = cc
fault-rose stopped old new size None ended v = absurd v

pub read-fault-rose : (task : Task) (old new : Ends) (status : Status) → HasRun task old new status
    → status ≡ ReadFault → Rose old.reads new.reads
read-fault-rose task old new status h is =
    let ran = subst (HasRun task old new) is h in
    fault-rose ran.1 old new _ (taken_fault task ran.0 ran.1) ran.2.took.ended ran.2.verdict

pub write-fault-rose : (task : Task) (old new : Ends) (status : Status) → HasRun task old new status
    → status ≡ WriteFault → Rose old.writes new.writes
write-fault-rose task old new status h is = let ran = subst (HasRun task old new) is h in ran.0
