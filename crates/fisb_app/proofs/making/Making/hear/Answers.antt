use Rattle.std.proofs.Common.{◌≡◌, ◌≢◌, ◌+◌, None, Some, ap, sym, refl, subst, fold, arith, ◌∙◌}
use Rattle.std.specs.Option.{option_or}
use Rattle.uplink_weave.specs.Functions.{length-woven_frame}
use Rattle.ground_core.specs.Airing.{frame_payload}
use Rattle.receiver_core.specs.Hearing.{IsHearFault, refusal_of_air}
use Rattle.workload.specs.Hearings.{frame_with_changes as changed_frame}
use Rattle.workload.specs.declared.step.Step.TheVariants.{Hear}
use Rattle.fisb_app.specs.declared.counts.Counts.{Counts}
use Rattle.fisb_app.specs.Past.{sent_frames, receptions}
use Rattle.fisb_app.specs.Reading.{frame_refusal, receiver_refusal}
use Rattle.fisb_app.specs.Make.{last_frame}
use Rattle.fisb_app.proofs.Steps.{unheard-clock, unheard-lost, unheard-invalid}
use Rattle.fisb_app.proofs.Stepping.{early-step, timely-step, refused-step, acted-step}
use Rattle.fisb_app.proofs.StepKinds.{hear-step, heard-made, received, unheard-refused, unreceived-made, early-made}
use Rattle.fisb_app.proofs.making.Making.hear.Goals as goal

pub returns-then-is_early : goal.returns-then-is_early
returns-then-is_early g c = λ table acted h.
    early-step g.G.Sender.stands g.E.Ear.stands table acted (Hear c.args.moment c.args.changes.now) c.args.moment _ _ c.args.self.now (hear-step table acted c.args.moment c.args.changes.now) h
    (sym c.is_early.ensures ∙ c.if-is_early.true)

pub returns-in_default : goal.returns-in_default
returns-in_default g c = λ table acted h.
    let after = timely-step g.G.Sender.stands g.E.Ear.stands table acted (Hear c.args.moment c.args.changes.now) c.args.moment _ _ c.args.self.now (hear-step table acted c.args.moment c.args.changes.now) h
    (sym c.is_early.ensures ∙ c.if-is_early.false) in
    let past = receptions table acted in
    let sent = sent_frames table acted in
    let against : frame_refusal c.args.self.now.late c.args.moment (last_frame sent) ≢ None = c.in_default.ensures (last_frame sent) h.last in
    let (why, is) = unheard-refused table.late c.args.moment (last_frame sent) (receiver_refusal past c.args.moment)
    (subst (λ late. frame_refusal late c.args.moment (last_frame sent) ≢ None) h.late against) in
    refused-step g.G.Sender.stands g.E.Ear.stands table acted _ _ _ why c.args.self.now after is h

pub returns-in_ok-self-in-Ok-2 : goal.returns-in_ok-self-in-Ok-2
returns-in_ok-self-in-Ok-2 g c = λ table acted h.
    let after = timely-step g.G.Sender.stands g.E.Ear.stands table acted (Hear c.args.moment c.args.changes.now) c.args.moment _ _ c.args.self.now (hear-step table acted c.args.moment c.args.changes.now) h
    (sym c.is_early.ensures ∙ c.if-is_early.false) in
    let past = receptions table acted in
    let sent = sent_frames table acted in
    let (frame, found, free, aired) = c.in-Some.ensures (last_frame sent) h.last in
    let free_by_table : frame_refusal table.late c.args.moment (last_frame sent) ≡ None = ap (λ late. frame_refusal late c.args.moment (last_frame sent)) (sym h.late) ∙ free in
    let put = c.add_to.ensures ∙ ap (changed_frame c.args.changes.now) aired in
    let got = received (λ heard. g.E.Ear.stands table heard c.hear.new.self) table past c.args.moment c.add_to.new.frame c.in-Ok.heard (c.in-Ok.ensures table past h.ear) in
    let before = ap (λ (n : Counts). n.heard) h.counts in
    let counted = c.in_ok-self-in-Ok.ensures in
    acted-step g.G.Sender.stands g.E.Ear.stands table acted _ _ _ _ after
    (ap (λ r. option_or r (receiver_refusal past c.args.moment)) free_by_table ∙ got.free)
    (heard-made g.G.Sender.stands g.E.Ear.stands table acted c.args.moment c.args.changes.now c.args.self.now c.hear.new.self frame c.add_to.new.frame (Some got.one) _ _ h found (length-woven_frame (frame_payload frame)) put got.is got.newest
    (omega (arith, before, counted))
    (c.in_ok-self-in-Ok-2.ensures ∙ ap (λ n. c.args.self.now.counts.corrected + n) (c.sum_of.ensures ∙ ap (fold (λ sum count. sum + count) 0) got.counts)))

pub returns-in-Err-Lost : goal.returns-in-Err-Lost
returns-in-Err-Lost g c = λ table acted h.
    let after = timely-step g.G.Sender.stands g.E.Ear.stands table acted (Hear c.args.moment c.args.changes.now) c.args.moment _ _ c.args.self.now (hear-step table acted c.args.moment c.args.changes.now) h
    (sym c.is_early.ensures ∙ c.if-is_early.false) in
    let past = receptions table acted in
    let sent = sent_frames table acted in
    let (frame, found, free, aired) = c.in-Some.ensures (last_frame sent) h.last in
    let free_by_table : frame_refusal table.late c.args.moment (last_frame sent) ≡ None = ap (λ late. frame_refusal late c.args.moment (last_frame sent)) (sym h.late) ∙ free in
    let put = c.add_to.ensures ∙ ap (changed_frame c.args.changes.now) aired in
    let told = c.in-Err-Lost.ensures table past h.ear in
    let refused = subst (IsHearFault (refusal_of_air past c.args.moment c.add_to.new.frame)) c.in-Err-Lost.field-0-is told.refused in
    let un = unheard-lost table past c.args.moment c.in-Err-Lost.field-0-0 c.add_to.new.frame _ refused refl in
    unreceived-made g.G.Sender.stands g.E.Ear.stands table acted _ c.args.moment c.args.changes.now c.args.self.now c.hear.new.self frame c.add_to.new.frame after free_by_table un.0 un.1.1 told.kept h found put

pub returns-in-Err-NoApplication : goal.returns-in-Err-NoApplication
returns-in-Err-NoApplication g c = λ table acted h.
    let after = timely-step g.G.Sender.stands g.E.Ear.stands table acted (Hear c.args.moment c.args.changes.now) c.args.moment _ _ c.args.self.now (hear-step table acted c.args.moment c.args.changes.now) h
    (sym c.is_early.ensures ∙ c.if-is_early.false) in
    let past = receptions table acted in
    let sent = sent_frames table acted in
    let (frame, found, free, aired) = c.in-Some.ensures (last_frame sent) h.last in
    let free_by_table : frame_refusal table.late c.args.moment (last_frame sent) ≡ None = ap (λ late. frame_refusal late c.args.moment (last_frame sent)) (sym h.late) ∙ free in
    let put = c.add_to.ensures ∙ ap (changed_frame c.args.changes.now) aired in
    let told = c.in-Err-NoApplication.ensures table past h.ear in
    let refused = subst (IsHearFault (refusal_of_air past c.args.moment c.add_to.new.frame)) c.in-Err-NoApplication.field-0-is told.refused in
    let un = unheard-invalid table past c.args.moment c.add_to.new.frame _ refused refl in
    unreceived-made g.G.Sender.stands g.E.Ear.stands table acted _ c.args.moment c.args.changes.now c.args.self.now c.hear.new.self frame c.add_to.new.frame after free_by_table un.0 un.1.1 told.kept h found put

pub returns-in-Err-Clock : goal.returns-in-Err-Clock
returns-in-Err-Clock g c = λ table acted h.
    let after = timely-step g.G.Sender.stands g.E.Ear.stands table acted (Hear c.args.moment c.args.changes.now) c.args.moment _ _ c.args.self.now (hear-step table acted c.args.moment c.args.changes.now) h
    (sym c.is_early.ensures ∙ c.if-is_early.false) in
    let past = receptions table acted in
    let sent = sent_frames table acted in
    let (frame, found, free, aired) = c.in-Some.ensures (last_frame sent) h.last in
    let free_by_table : frame_refusal table.late c.args.moment (last_frame sent) ≡ None = ap (λ late. frame_refusal late c.args.moment (last_frame sent)) (sym h.late) ∙ free in
    let put = c.add_to.ensures ∙ ap (changed_frame c.args.changes.now) aired in
    let told = c.in-Err-Clock.ensures table past h.ear in
    let refused = subst (IsHearFault (refusal_of_air past c.args.moment c.add_to.new.frame)) c.in-Err-Clock.field-0-is told.refused in
    early-made g.G.Sender.stands g.E.Ear.stands table acted _ c.args.moment c.args.changes.now c.in-Err-Clock.field-0-0 c.args.self.now c.hear.new.self after free_by_table
    (unheard-clock past c.args.moment c.in-Err-Clock.field-0-0 c.add_to.new.frame refused) told.kept h
