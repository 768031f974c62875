use Rattle.segment_core.proofs.Parts.{are_parts}
use Rattle.segment_core.proofs.laws.parts_are_whole.Goals as goal

pub returns : goal.returns
returns c = are_parts
