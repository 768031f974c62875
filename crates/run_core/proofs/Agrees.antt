-- A run of a task is a run of each task that asks the same.
use Rattle.std.proofs.Common.{◌≡◌, ℕ, List, Option, Some, None, inl, inr, refl, subst, length}
use Rattle.std.specs.Io.KnownBytes.{Appends}
use Rattle.run_core.specs.declared.status.Status.{Status}
use Rattle.run_core.specs.declared.status.Status.TheVariants.{Done, Usage, Refused, ReadFault, WriteFault, TooLong, NoMemory}
use Rattle.run_core.specs.Run.{Task, Ends, HasAnswered, HasWrittenFront, IsVerdict, IsNear, IsDecided, IsJudged, AppendsFront, acted_part, is_end, ending_of}
use Rattle.run_core.specs.Laws.{Agrees, RunAgrees, DecidedAgrees}

answered : (one other : Task) (old new : Ends) (status : Status) → Agrees one other → HasAnswered one old new status
    → HasAnswered other old new status
answered one other old new status same h =
    let taken = h.0 in
    let ending = h.1 in
    let fault = same.fault (is_end ending) (acted_part taken) in
    let output = same.output (is_end ending) (acted_part taken) in
    let a = h.2 in (
      taken,
      ending,
      record {
        took = a.took;
        verdict = subst (λ f. IsVerdict ending f status) fault a.verdict;
        near = subst (λ f. IsNear (length taken) f) fault a.near;
        written = subst (λ o. Appends old.written new.written o) output a.written;
        unfailed = a.unfailed;
      },
    )

front : (one other : Task) (old new : Ends) → Agrees one other → HasWrittenFront one old new → HasWrittenFront other old new
front one other old new same h =
    let output = same.output (is_end h.1) (acted_part h.0) in
    (h.0, h.1, record { took = h.2.took; written = subst (λ o. AppendsFront old.written new.written o) output h.2.written })

pub run-agrees : RunAgrees
run-agrees one other old new Done same h = answered one other old new Done same h
run-agrees one other old new Usage same h = h
run-agrees one other old new (Refused line why) same h = answered one other old new (Refused line why) same h
run-agrees one other old new ReadFault same h = answered one other old new ReadFault same h
run-agrees one other old new WriteFault same h = (h.0, front one other old new same h.1)
run-agrees one other old new TooLong same h = answered one other old new TooLong same h
run-agrees one other old new NoMemory same h = (h.0, front one other old new same h.1)

judged-agrees : (one other : Task) (old new : Ends) (input : List ℕ) (status : Status) → Agrees one other
    → IsJudged one old new input status → IsJudged other old new input status
judged-agrees one other old new input status same (inl none) = inl none
judged-agrees one other old new input status same (inr h) = inr (
  subst (λ f. IsVerdict (ending_of input) f status)
      (same.fault (is_end (ending_of input)) (acted_part input)) h.0,
  subst (λ o. Appends old.written new.written o)
      (same.output (is_end (ending_of input)) (acted_part input)) h.1,
)

decided-by : (one other : Task) (left : Option (List ℕ)) (old new : Ends) (status : Status) → old.left ≡ left
    → Agrees one other → IsDecided one old new status → IsDecided other old new status
decided-by one other None old new status is same h = rw is tt
decided-by one other (Some input) old new status is same h =
    let told = rw is at h in
    rw is (λ reads writes. judged-agrees one other old new input status same (told reads writes))

pub decided-agrees : DecidedAgrees
decided-agrees one other old new status same h = decided-by one other old.left old new status refl same h
