use Rattle.segment_core.proofs.Bounded.{stores-bounded}
use Rattle.segment_core.proofs.laws.stores_are_bounded.Goals as goal

pub returns : goal.returns
returns c = stores-bounded c.stations_are_told.ensures
