use Rattle.ground_core.specs.Piece.{while_living}
use Rattle.ground_core.proofs.Areas.{changed_blocks}
use Rattle.ground_core.proofs.newest.Newest.forget_blocks.Goals as goal

pub returns : goal.returns
returns c = changed_blocks c.args.self.now c.forget.new.self c.args.blocks.now (while_living c.args.moment) c.forget.ensures
