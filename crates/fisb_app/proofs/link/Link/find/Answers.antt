use Rattle.std.proofs.Common.{ap, sym, ◌∙◌, ◌≡◌, arith, slice_get}
use Rattle.std.proofs.lemmas.Map.Keys.{ge_from_not_lt}
use Rattle.fisb_app.specs.Past.{air_of}
use Rattle.fisb_app.specs.Stands.{Aired, sent_view}
use Rattle.fisb_app.proofs.Found.{lent-found, map-found, kept-found, before, too-early, too-late, in-time}
use Rattle.fisb_app.proofs.link.Link.find.Goals as goal

pub returns-then-lt : goal.returns-then-lt
returns-then-lt g c = λ frames are.
    let within = c.in-Some.ensures.lookup.3.0 in
    let lent = lent-found _ c.args.frame c.in-Some.sent.now within c.in-Some.ensures.lookup.1 in
    let kept = map-found sent_view c.args.self.now.sent.items c.args.frame c.in-Some.sent.now (ap (λ xs. slice_get xs c.args.frame) (sym c.deref.ensures.value) ∙ lent) in
    let (frame, found, is) = kept-found _ frames c.args.frame _ are kept in
    let moment = ap (λ (a : Aired). a.moment) is in
    let earlier = before c.args.moment c.in-Some.sent.now.moment (sym c.lt.ensures ∙ c.if-lt.true) in
    too-early c.args.self.now.sending.table.late c.args.moment _ frame found (omega (arith, moment, earlier))

pub returns-then-seconds-late : goal.returns-then-seconds-late
returns-then-seconds-late g c = λ frames are.
    let within = c.in-Some.ensures.lookup.3.0 in
    let lent = lent-found _ c.args.frame c.in-Some.sent.now within c.in-Some.ensures.lookup.1 in
    let kept = map-found sent_view c.args.self.now.sent.items c.args.frame c.in-Some.sent.now (ap (λ xs. slice_get xs c.args.frame) (sym c.deref.ensures.value) ∙ lent) in
    let (frame, found, is) = kept-found _ frames c.args.frame _ are kept in
    let moment = ap (λ (a : Aired). a.moment) is in
    let after = c.if-seconds-late.true in
    let one = c.seconds.ensures.value in
    let other = c.seconds-2.ensures.value in
    let allowed = c.late.ensures.late in
    let sent = ge_from_not_lt c.args.moment c.in-Some.sent.now.moment (sym c.lt.ensures ∙ c.if-lt.false) in
    too-late c.args.self.now.sending.table.late c.args.moment _ frame found (omega (arith, moment, sent)) (omega (arith, moment, after, one, other, allowed))

pub returns : goal.returns
returns g c = λ frames are.
    let within = c.in-Some.ensures.lookup.3.0 in
    let lent = lent-found _ c.args.frame c.in-Some.sent.now within c.in-Some.ensures.lookup.1 in
    let kept = map-found sent_view c.args.self.now.sent.items c.args.frame c.in-Some.sent.now (ap (λ xs. slice_get xs c.args.frame) (sym c.deref.ensures.value) ∙ lent) in
    let (frame, found, is) = kept-found _ frames c.args.frame _ are kept in
    let moment = ap (λ (a : Aired). a.moment) is in
    let air : c.in-Some.sent.now.air ≡ air_of frame = ap (λ (a : Aired). a.air) is in
    let not_after = c.if-seconds-late.false in
    let one = c.seconds.ensures.value in
    let other = c.seconds-2.ensures.value in
    let allowed = c.late.ensures.late in
    let sent = ge_from_not_lt c.args.moment c.in-Some.sent.now.moment (sym c.lt.ensures ∙ c.if-lt.false) in
    (frame, found, in-time c.args.self.now.sending.table.late c.args.moment _ frame found (omega (arith, moment, sent)) (omega (arith, moment, not_after, one, other, allowed)), air)
