use Rattle.std.proofs.Common.{◌∙◌}
use Rattle.segment_core.proofs.PieceNames.{kept-found}
use Rattle.segment_core.proofs.held.kept_under.Goals as goal

pub returns : goal.returns
returns c = c.get.ensures.value ∙ kept-found c.args.name.now c.args.pieces.now.entries
