use Rattle.std.proofs.Common.{Some, refl, subst, ◌∙◌}
use Rattle.segment_core.specs.Store.{MarkedStore, StandsFor, IsNotBefore}
use Rattle.segment_core.proofs.StoreSteps.{stands-purged, live-purged}
use Rattle.segment_core.specs.Ends.{stale_from}
use Rattle.segment_core.specs.contracts.piece_name.PieceNameOrd.TheImpl as order
use Rattle.segment_core.proofs.joiner.Joiner.purge.Goals as goal

pub returns-clause-stands : goal.returns-clause-stands
returns-clause-stands c = λ taken.
    subst (λ (v : MarkedStore). IsNotBefore v.store.clock c.args.moment → StandsFor v.store taken
    → StandsFor (record {
      longest = c.self.inside.longest;
      clock = Some c.args.moment;
      pieces =
          c.drop_stale.new.pieces.entries;
    }) taken)
    c.self.view_is
    (λ after stands. rw c.drop_stale.ensures.pieces
    (stands-purged c.stations_are_told.ensures c.self.inside.longest c.self.inside.clock c.args.moment c.self.inside.pieces.entries taken after stands))
    c.requires.moment

pub returns-clause-purged : goal.returns-clause-purged
returns-clause-purged c = record {
  clock = refl;
  once = c.drop_stale.ensures.once;
  live = rw c.drop_stale.ensures.pieces (live-purged c.stations_are_told.ensures c.self.inside.longest c.args.moment c.self.inside.pieces.entries);
}

pub drop_stale-requires-clause-placed : goal.drop_stale-requires-clause-placed
drop_stale-requires-clause-placed c =
    (c.queues_stay.ensures.alone order.ghosts.cmp (stale_from c.self.inside.longest) c.self.inside.ends c.settle.new.self
    c.self.inside.pieces c.settle.ensures.places c.self.invariant).placed

pub drop_stale-requires-clause-few : goal.drop_stale-requires-clause-few
drop_stale-requires-clause-few c =
    (c.queues_stay.ensures.alone order.ghosts.cmp (stale_from c.self.inside.longest) c.self.inside.ends c.settle.new.self
    c.self.inside.pieces c.settle.ensures.places c.self.invariant).few

pub invariant_of-self : goal.invariant_of-self
invariant_of-self c =
    c.queues_stay.ensures.unmarked order.ghosts.cmp (stale_from c.self.inside.longest) c.drop_stale.new.ends c.drop_stale.new.pieces
    (c.drop_stale.ensures.added ∙ c.settle.ensures.added) c.drop_stale.ensures.mark
    record { placed = c.drop_stale.ensures.placed; few = c.drop_stale.ensures.few }
