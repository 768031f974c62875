use Rattle.ground_core.proofs.Stations.{histories-grow}
use Rattle.ground_core.proofs.laws.histories_grow.Goals as goal

pub returns : goal.returns
returns c = histories-grow c.stations_are_told.ensures
