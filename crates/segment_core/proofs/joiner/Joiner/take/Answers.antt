use Rattle.std.proofs.Common.{◌≡◌, true, Some, refl, sym, ◌∙◌, subst}
use Rattle.segment_core.specs.Store.{MarkedStore, StandsFor, IsNotBefore, answer_of, is_in_life, taken_with}
use Rattle.segment_core.specs.Views.{arrival_view}
use Rattle.segment_core.proofs.StoreSteps.{answer-live, takes-live, takes-stale}
use Rattle.segment_core.specs.Ends.{stale_from}
use Rattle.segment_core.specs.contracts.piece_name.PieceNameOrd.TheImpl as order
use Rattle.segment_core.proofs.joiner.Joiner.take.Goals as goal

pub returns-then-not-is_in_life-clause-stands : goal.returns-then-not-is_in_life-clause-stands
returns-then-not-is_in_life-clause-stands c = λ taken.
    subst (λ (v : MarkedStore). IsNotBefore v.store.clock c.args.moment → StandsFor v.store taken
    → StandsFor (record { longest = c.self.inside.longest; clock = Some c.args.moment; pieces = c.self.inside.pieces.entries })
    (taken_with v.store.longest c.args.moment taken (arrival_view c.args.arrived.now)))
    c.self.view_is
    (λ after. takes-stale c.self.inside.longest c.self.inside.clock c.args.moment c.self.inside.pieces.entries taken
    (arrival_view c.args.arrived.now) after (sym c.is_in_life.ensures ∙ c.if-not-is_in_life.true))
    c.requires.moment

pub returns-clause-answer : goal.returns-clause-answer
returns-clause-answer c = λ taken.
    let live : is_in_life c.self.inside.longest c.args.moment c.args.arrived.now.product c.args.arrived.now.version ≡ true =
    sym c.is_in_life.ensures ∙ c.if-not-is_in_life.false in
    subst (λ (v : MarkedStore). IsNotBefore v.store.clock c.args.moment → StandsFor v.store taken
    → c.in_ok-taken.taken ≡ answer_of v.store.longest c.args.moment taken (arrival_view c.args.arrived.now))
    c.self.view_is
    (λ after stands. c.in_ok-taken.ensures.answer
    ∙ answer-live c.stations_are_told.ensures c.self.inside.longest c.self.inside.clock c.args.moment c.self.inside.pieces.entries taken
    (arrival_view c.args.arrived.now) c.args.arrived.now.seg refl c.requires.segment after live stands)
    c.requires.moment

pub returns-clause-stands : goal.returns-clause-stands
returns-clause-stands c = λ taken.
    let live : is_in_life c.self.inside.longest c.args.moment c.args.arrived.now.product c.args.arrived.now.version ≡ true =
    sym c.is_in_life.ensures ∙ c.if-not-is_in_life.false in
    subst (λ (v : MarkedStore). IsNotBefore v.store.clock c.args.moment → StandsFor v.store taken
    → StandsFor (record {
      longest = c.self.inside.longest;
      clock = Some c.args.moment;
      pieces =
          c.take_live.new.pieces.entries;
    })
    (taken_with v.store.longest c.args.moment taken (arrival_view c.args.arrived.now)))
    c.self.view_is
    (λ after stands. takes-live c.stations_are_told.ensures c.self.inside.longest c.self.inside.clock c.args.moment c.self.inside.pieces.entries
    c.take_live.new.pieces.entries taken (arrival_view c.args.arrived.now) c.requires.segment after live
    c.in_ok-taken.ensures.pieces stands)
    c.requires.moment

pub invariant_of-self-2 : goal.invariant_of-self-2
invariant_of-self-2 c =
    c.queues_stay.ensures.written order.ghosts.cmp (stale_from c.self.inside.longest) c.self.inside.ends c.take_live.new.ends
    c.self.inside.pieces c.take_live.new.pieces c.take_live.ensures.kept c.take_live.ensures.placed c.take_live.ensures.few
    c.take_live.ensures.mark c.self.invariant

pub invariant_of-self-in_err-taken : goal.invariant_of-self-in_err-taken
invariant_of-self-in_err-taken c =
    c.queues_stay.ensures.written order.ghosts.cmp (stale_from c.self.inside.longest) c.self.inside.ends c.take_live.new.ends
    c.self.inside.pieces c.take_live.new.pieces c.take_live.ensures.kept c.take_live.ensures.placed c.take_live.ensures.few
    c.take_live.ensures.mark c.self.invariant
