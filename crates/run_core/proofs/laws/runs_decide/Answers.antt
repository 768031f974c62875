use Rattle.run_core.proofs.Decided.{runs-decide}
use Rattle.run_core.proofs.laws.runs_decide.Goals as goal

pub returns : goal.returns
returns c = runs-decide
