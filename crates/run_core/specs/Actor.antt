-- What an actor answers of a table and of a line.
use Rattle.std.specs.Prelude.{◌≡◌, ℕ, List, Option, Some, None, Result, Ok, Err}
use Rattle.refusal_core.specs.declared.reason.Reason.{Reason}
use Rattle.run_core.specs.declared.stop.Stop.{Stop}
use Rattle.run_core.specs.declared.stop.Stop.TheVariants.{Refused, NoMemory}

-- an actor was made from a table, and stands for no lines; or the table is at fault
abbrev pub HasOpened : {A : Type 0} → Option Reason → (A → Type 0) → Result A Stop → Type 0
HasOpened opened stands (Ok actor) = (opened ≡ None) × stands actor
HasOpened opened stands (Err (Refused why)) = opened ≡ Some why
HasOpened opened stands (Err NoMemory) = Unit {0}

-- a line was acted on, and what it gave has the text that is told; or it was refused
abbrev pub HasActed : {G : Type 0} → (G → List ℕ) → Result (List ℕ) Reason → Type 0
    → Result G Stop → Type 0
HasActed text told stands (Ok given) = (told ≡ Ok (text given)) × stands
HasActed text told stands (Err (Refused why)) = told ≡ Err why
HasActed text told stands (Err NoMemory) = Unit {0}
