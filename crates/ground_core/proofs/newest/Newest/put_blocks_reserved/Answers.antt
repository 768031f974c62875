use Rattle.std.proofs.Common.{Some}
use Rattle.ground_core.specs.Views.{given_view}
use Rattle.ground_core.proofs.Areas.{changed_blocks}
use Rattle.ground_core.proofs.newest.Newest.put_blocks_reserved.Goals as goal

pub returns-clause-put : goal.returns-clause-put
returns-clause-put c = changed_blocks c.args.self.now c.put.new.self c.args.blocks.now (λ latest. Some (given_view c.args.given.now)) c.put.ensures.put
