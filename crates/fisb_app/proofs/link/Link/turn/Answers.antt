use Rattle.std.proofs.Common.{◌≡◌, false, ◌∷◌, ap, sym, ◌∙◌, length, map, arith, subst}
use Rattle.script_core.specs.Script.{turn}
use Rattle.script_core.specs.Printed.{sent_line}
use Rattle.ground_core.specs.Airing.{frame_after}
use Rattle.fisb_app.specs.Past.{events, station_after, sent_frames, receptions}
use Rattle.fisb_app.specs.Reading.{turn_refusal}
use Rattle.fisb_app.specs.Output.{sent_frame}
use Rattle.fisb_app.specs.Stands.{aired_view, sent_view}
use Rattle.fisb_app.proofs.Turning.{count-alike, kept-more, line-alike}
use Rattle.fisb_app.proofs.link.Link.turn.Goals as goal

pub returns-in-Err-clause-acted : goal.returns-in-Err-clause-acted
returns-in-Err-clause-acted g c = λ bytes acted h.
    let table = c.args.self.now.sending.table in
    let many : length c.args.self.now.sent.items ≡ length (sent_frames table acted) = count-alike sent_view aired_view _ _ h.sent in
    let roomy = ap length c.reserve.ensures.items in
    let index : c.len-index.result ≡ length (sent_frames table acted) = (let counted = c.len-index.ensures in omega (arith, counted, many, roomy)) in
    ap (λ i. turn_refusal i acted c.args.moment) (sym index) ∙ c.in-Err.ensures.refused bytes acted h.holds

pub returns-clause-acted : goal.returns-clause-acted
returns-clause-acted g c = λ bytes acted h.
    let table = c.args.self.now.sending.table in
    let many : length c.args.self.now.sent.items ≡ length (sent_frames table acted) = count-alike sent_view aired_view _ _ h.sent in
    let roomy = ap length c.reserve.ensures.items in
    let index : c.len-index.result ≡ length (sent_frames table acted) = (let counted = c.len-index.ensures in omega (arith, counted, many, roomy)) in
    let on = c.in-Ok-turn.ensures.frame bytes acted h.holds in
    let sent = frame_after table (station_after acted) (events acted) c.args.moment c.args.slot in
    let same = c.in-Ok-turn.ensures.table in (
      ap (λ i. turn_refusal i acted c.args.moment) (sym index) ∙ c.in-Ok-turn.ensures.in_time bytes acted h.holds,
      (
        c.of.ensures ∙ line-alike c.len-index.result false sent c.in-Ok-turn.frame on ∙ ap (λ i. sent_line i (sent_frame sent) false) index,
        record {
          holds = c.in-Ok-turn.ensures.filled bytes acted h.holds;
          sent = c.keep.ensures ∙ kept-more table acted c.args.moment c.args.slot _ c.in-Ok-turn.frame (ap (map sent_view) c.reserve.ensures.items ∙ h.sent) on
              ∙ ap (λ t. map aired_view (sent_frames t (turn c.args.moment c.args.slot ∷ acted))) (sym same);
          ear = subst (λ t. g.E.Ear.stands t (receptions t acted) c.args.self.now.ear) (sym same) h.ear;
        },
      ),
    )
