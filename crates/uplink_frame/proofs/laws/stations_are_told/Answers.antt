use Rattle.uplink_frame.proofs.Stations.{same_station-right}
use Rattle.uplink_frame.proofs.laws.stations_are_told.Goals as goal

pub returns : goal.returns
returns c = same_station-right
