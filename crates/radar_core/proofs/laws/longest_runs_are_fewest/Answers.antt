use Rattle.radar_core.proofs.FewestRuns.{are_fewest}
use Rattle.radar_core.proofs.laws.longest_runs_are_fewest.Goals as goal

pub returns : goal.returns
returns c = are_fewest
