-- Once all places are settled, they are those of the entries alone.
use Rattle.undo_map.proofs.lasting.LastingMap.purge.Goals as goal

pub drop_over-requires-clause-placed : goal.drop_over-requires-clause-placed
drop_over-requires-clause-placed g c =
    (c.queues_stay.ensures.alone g.K.Ord.cmp (λ e. g.V.Lasting.end e.1) c.self.inside.ends c.settle.new.self c.self.inside.map
    c.settle.ensures.places c.self.invariant).placed

pub drop_over-requires-clause-few : goal.drop_over-requires-clause-few
drop_over-requires-clause-few g c =
    (c.queues_stay.ensures.alone g.K.Ord.cmp (λ e. g.V.Lasting.end e.1) c.self.inside.ends c.settle.new.self c.self.inside.map
    c.settle.ensures.places c.self.invariant).few
