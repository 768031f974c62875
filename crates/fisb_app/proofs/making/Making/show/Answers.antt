use Rattle.std.proofs.Common.{◌≡◌, sym, ap, subst, Some, option_map, ◌∙◌, ◌+◌}
use Rattle.segment_core.specs.Store.{last_above}
use Rattle.receiver_core.specs.Hearing.{IsShowFault, clock_of}
use Rattle.refusal_core.specs.declared.reason.Reason.TheVariants.{Clock}
use Rattle.workload.specs.declared.step.Step.TheVariants.{Show}
use Rattle.fisb_app.specs.Past.{receptions}
use Rattle.fisb_app.proofs.Stepping.{early-step, timely-step, refused-step, acted-step}
use Rattle.fisb_app.proofs.StepKinds.{show-step, show-made}
use Rattle.fisb_app.proofs.making.Making.show.Goals as goal

pub returns-then-is_early : goal.returns-then-is_early
returns-then-is_early g c = λ table acted h.
    early-step g.G.Sender.stands g.E.Ear.stands table acted (Show c.args.moment) c.args.moment _ _ c.args.self.now (show-step table acted c.args.moment) h
    (sym c.is_early.ensures ∙ c.if-is_early.true)

pub returns-in_ok-self-in-Ok : goal.returns-in_ok-self-in-Ok
returns-in_ok-self-in-Ok g c = λ table acted h.
    let after = timely-step g.G.Sender.stands g.E.Ear.stands table acted (Show c.args.moment) c.args.moment _ _ c.args.self.now (show-step table acted c.args.moment) h
    (sym c.is_early.ensures ∙ c.if-is_early.false) in
    let shown = c.in-Ok.ensures table (receptions table acted) h.ear in
    acted-step g.G.Sender.stands g.E.Ear.stands table acted _ _ _ _ after (ap (option_map Clock) shown.accepted)
    (show-made g.G.Sender.stands g.E.Ear.stands table acted c.args.moment c.args.self.now c.in-Ok.entries _ h shown.shown
    (c.in_ok-self-in-Ok.ensures ∙ ap (λ n. c.args.self.now.counts.entries + n) c.len.ensures.count))

pub returns-in-Err-Clock : goal.returns-in-Err-Clock
returns-in-Err-Clock g c = λ table acted h.
    let after = timely-step g.G.Sender.stands g.E.Ear.stands table acted (Show c.args.moment) c.args.moment _ _ c.args.self.now (show-step table acted c.args.moment) h
    (sym c.is_early.ensures ∙ c.if-is_early.false) in
    let shown = c.in-Err-Clock.ensures table (receptions table acted) h.ear in
    let before : last_above (clock_of (receptions table acted)) c.args.moment ≡ Some c.in-Err-Clock.field-0-0 = subst (IsShowFault (last_above (clock_of (receptions table acted)) c.args.moment)) c.in-Err-Clock.field-0-is shown.refused in
    refused-step g.G.Sender.stands g.E.Ear.stands table acted _ _ _ _ _ after (ap (option_map Clock) before) h
