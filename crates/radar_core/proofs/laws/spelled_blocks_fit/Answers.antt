use Rattle.radar_core.proofs.SpelledFit.{spelled_blocks_fit}
use Rattle.radar_core.proofs.laws.spelled_blocks_fit.Goals as goal

pub returns : goal.returns
returns c = spelled_blocks_fit
