-- An arrival that is no segment brings its own payload, and what is held stays.
use Rattle.std.proofs.Common.{Some, sym, ap, subst, inl, inr}
use Rattle.std.proofs.lemmas.Bool.{cases_Bool}
use Rattle.segment_core.specs.HeldPieces.{held_after}
use Rattle.segment_core.specs.Store.{FitsFile, MarkedStore, StandsFor, IsNotBefore, is_in_life, taken_with}
use Rattle.segment_core.specs.Views.{arrival_view}
use Rattle.segment_core.proofs.StoreSteps.{takes-live, takes-stale}
use Rattle.segment_core.proofs.joiner.Joiner.take_whole.Goals as goal

pub returns-clause-stands : goal.returns-clause-stands
returns-clause-stands c = λ taken.
    let a = arrival_view c.args.arrived.now in
    subst (λ (v : MarkedStore). IsNotBefore v.store.clock c.args.moment → StandsFor v.store taken
    → StandsFor (record { longest = c.self.inside.longest; clock = Some c.args.moment; pieces = c.self.inside.pieces.entries })
    (taken_with v.store.longest c.args.moment taken a))
    c.self.view_is
    (λ after stands. elim (cases_Bool (is_in_life c.self.inside.longest c.args.moment a.product a.version)) [
      | inl live ↦ takes-live c.stations_are_told.ensures c.self.inside.longest c.self.inside.clock c.args.moment
          c.self.inside.pieces.entries c.self.inside.pieces.entries taken a (subst FitsFile (sym c.requires.alone) tt) after live
          (λ q. ap (λ o. held_after c.self.inside.pieces.entries a o q) (sym c.requires.alone)) stands
      | inr stale ↦ takes-stale c.self.inside.longest c.self.inside.clock c.args.moment c.self.inside.pieces.entries taken a after
          stale stands
    ])
    c.requires.moment
