use Rattle.gdl90_core.proofs.Cuts as cuts
use Rattle.gdl90_core.proofs.laws.pieces_go_on.Goals as goal

pub returns : goal.returns
returns c = cuts.pieces_go_on
