use Rattle.ground_core.proofs.Stations.{items-of_stations}
use Rattle.ground_core.proofs.laws.items_are_of_stations.Goals as goal

pub returns : goal.returns
returns c = items-of_stations c.stations_are_told.ensures
