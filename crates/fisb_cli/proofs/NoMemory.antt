-- A run that did not begin as memory was not found.
use Rattle.std.proofs.Common.{ℕ, List, Option, Some, None, IfSome, inl, refl}
use Rattle.fisb_wire.specs.Faults.{Rose}
use Rattle.run_core.specs.Run.{Task, Ends, IsDecided, IsJudged}
use Rattle.run_core.specs.declared.status.Status.TheVariants.{NoMemory}

judged-without-memory : (task : Task) (e : Ends) (left : Option (List ℕ)) → IfSome left (λ input.
    (Rose e.reads e.reads → ⊥) → (Rose e.writes e.writes → ⊥) → IsJudged task e e input NoMemory)
judged-without-memory task e None = tt
judged-without-memory task e (Some input) = λ reading writing. inl refl

pub decided-without-memory : (task : Task) (e : Ends) → IsDecided task e e NoMemory
decided-without-memory task e = judged-without-memory task e e.left
