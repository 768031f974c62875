use Rattle.segment_core.proofs.Bounded.{once-sorted}
use Rattle.segment_core.proofs.held.names_stand_once.Goals as goal

pub returns : goal.returns
returns c = once-sorted c.args.pieces.now.entries c.len.ensures.ordered
