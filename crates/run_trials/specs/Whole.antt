-- What a run over a whole input answers, and what its sink has then.
use Rattle.std.specs.Prelude.{◌≡◌, ℕ, ◌⊎◌, List}
use Rattle.run_core.specs.declared.status.Status.{Status}
use Rattle.run_core.specs.declared.status.Status.TheVariants.{NoMemory}
use Rattle.run_core.specs.Run.{Task, Ending, IsVerdict, taken_fault, taken_output}

-- the verdict, with exactly the output; or memory was not found
abbrev pub IsWholeRun : Task → Ending → List ℕ → Status → List ℕ → Type 0
IsWholeRun task ending input status taken = (status ≡ NoMemory)
    ⊎ (IsVerdict ending (taken_fault task input ending) status
    × (taken ≡ taken_output task input ending))
