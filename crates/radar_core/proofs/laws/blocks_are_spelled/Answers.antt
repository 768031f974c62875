use Rattle.radar_core.proofs.Spelled.{blocks_are_spelled}
use Rattle.radar_core.proofs.laws.blocks_are_spelled.Goals as goal

pub returns : goal.returns
returns c = blocks_are_spelled
