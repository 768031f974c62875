use Rattle.segment_core.specs.Ends.{stale_from}
use Rattle.segment_core.specs.contracts.piece_name.PieceNameOrd.TheImpl as order
use Rattle.segment_core.proofs.joiner.Joiner.mark.Goals as goal

pub invariant_of-self : goal.invariant_of-self
invariant_of-self c =
    c.queues_stay.ensures.marked order.ghosts.cmp (stale_from c.self.inside.longest) c.self.inside.ends c.settle.new.self
    c.self.inside.pieces c.mark.new.self c.settle.ensures.places c.settle.ensures.added c.mark.ensures c.self.invariant
