use Rattle.ground_core.proofs.Order.{same_segment_refl}
use Rattle.ground_core.proofs.laws.segments_are_same.Goals as goal

pub returns : goal.returns
returns c = same_segment_refl c.stations_are_told.ensures
