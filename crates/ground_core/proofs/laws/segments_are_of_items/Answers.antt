use Rattle.ground_core.proofs.Segments.{segments-of_items}
use Rattle.ground_core.proofs.laws.segments_are_of_items.Goals as goal

pub returns : goal.returns
returns c = segments-of_items
