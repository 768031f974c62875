use Rattle.picture_core.specs.contracts.key.KeyOrd.TheImpl as order
use Rattle.picture_core.proofs.CodeOrder.{code_order}
use Rattle.picture_core.proofs.KeptPairs.{rising-pairs}
use Rattle.picture_core.proofs.picture.Picture.len.Goals as goal

pub returns-clause-rising : goal.returns-clause-rising
returns-clause-rising c =
    rw (← c.self.view_is) (rising-pairs order.ghosts.cmp code_order c.self.inside.kept.entries c.len.ensures.ordered)
