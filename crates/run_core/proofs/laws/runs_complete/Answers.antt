use Rattle.run_core.proofs.Complete.{runs-complete}
use Rattle.run_core.proofs.laws.runs_complete.Goals as goal

pub returns : goal.returns
returns c = runs-complete
