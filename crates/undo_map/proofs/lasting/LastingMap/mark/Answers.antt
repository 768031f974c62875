use Rattle.undo_map.proofs.lasting.LastingMap.mark.Goals as goal

pub invariant_of-self : goal.invariant_of-self
invariant_of-self g c =
    c.queues_stay.ensures.marked g.K.Ord.cmp (λ e. g.V.Lasting.end e.1) c.self.inside.ends c.settle.new.self c.self.inside.map
    c.mark.new.self c.settle.ensures.places c.settle.ensures.added c.mark.ensures c.self.invariant
