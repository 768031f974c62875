use Rattle.run_core.proofs.Agrees.{run-agrees, decided-agrees}
use Rattle.run_core.proofs.laws.runs_agree.Goals as goal

pub returns : goal.returns
returns c = record { run = run-agrees; decided = decided-agrees }
