use Rattle.run_core.proofs.Stable.{tasks-stable}
use Rattle.run_core.proofs.laws.stable_tasks.Goals as goal

pub returns : goal.returns
returns c = tasks-stable
