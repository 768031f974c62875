-- A run over ends that never fail answers no fault of theirs.
use Rattle.std.proofs.Common.{◌≡◌, ◌≢◌, ℕ, ◌<◌, ◌≤◌, List, ◌++◌, Option, Some, None, length, take, ap, subst, ◌∙◌, arith, length-append, length-take}
use Rattle.std.specs.Io.KnownBytes.{Appends}
use Rattle.fisb_wire.specs.Faults.{Rose}
use Rattle.fisb_wire.specs.Ends.{IsReached}
use Rattle.run_core.specs.declared.status.Status.TheVariants.{WriteFault}
use Rattle.run_core.specs.Run.{Task, Ends, HasRun, ending_of, taken_output}
use Rattle.run_core.specs.Laws.{Begins, IsStable, RunsComplete}
use Rattle.run_core.proofs.Faults.{read-fault-rose}
use Rattle.run_core.proofs.Decided.{consumed-rest, output-begins, judged}

-- so many bytes were written
front-size : (known : List ℕ) (after : Option (List ℕ)) (piece whole : List ℕ) (n : ℕ) → Begins piece whole
    → n ≤ length piece → Appends (Some known) after (take n piece)
    → (room writes : ℕ) → 0 < writes → IsReached (Some room) after writes → room ≤ length (known ++ whole)
front-size known None piece whole n begins within wrote room writes some reached = absurd wrote
front-size known (Some bytes) piece whole n begins within wrote room writes some reached =
    let full = reached some in
    let one = ap length wrote ∙ length-append known (take n piece) in
    let two = length-take n piece in
    let three = ap length begins.1 ∙ length-append piece begins.0 in
    let four = length-append known whole in
    omega (arith, full, one, two, three, four, within)

no-write-fault : (task : Task) (old new : Ends) (input before : List ℕ) (room : ℕ) → IsStable task
    → HasRun task old new WriteFault → old.left ≡ Some input → old.written ≡ Some before
    → (Rose old.reads new.reads → ⊥) → IsReached (Some room) new.written new.writes
    → length (before ++ taken_output task input (ending_of input)) < room → ⊥
no-write-fault task old new input before room stable h left written reads reached small =
    let front = h.1 in
    let took = front.2.took in
    let c = (let c = took.consumed in rw left at c) in
    let rest = consumed-rest input front.0 new.left c in
    let begins = output-begins task old new input front.0 rest.0 rest.1 rest.2 front.1 stable took.ended reads in
    let wrote = front.2.written in
    let appended = (let w = wrote.2 in rw written at w) in
    let some : 0 < new.writes = (let rose = h.0 in omega (arith, rose)) in
    let over = front-size before new.written _ _ wrote.0 begins wrote.1 appended room new.writes some reached in
    absurd (omega (arith, over, small))

pub runs-complete : RunsComplete
runs-complete task reach old new status stable h reached = λ input before room left written far reads small.
    let never : status ≢ WriteFault = (λ is. no-write-fault task old new input before room stable
    (subst (HasRun task old new) is h) left written reads
    (subst (λ r. IsReached r new.written new.writes) far reached) small) in (
      λ is. reads (read-fault-rose task old new status h is),
      never,
      judged task old new status input stable h left reads never,
    )
