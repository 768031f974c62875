use Rattle.std.proofs.Common.{◌+◌, true, ◌∷◌, ap, sym, ◌∙◌, length}
use Rattle.std.proofs.lemmas.List.{length_push}
use Rattle.script_core.specs.Script.{turn}
use Rattle.script_core.specs.Printed.{sent_line}
use Rattle.ground_core.specs.Airing.{frame_after}
use Rattle.fisb_app.specs.Past.{events, station_after, sent_frames}
use Rattle.fisb_app.specs.Reading.{turn_refusal}
use Rattle.fisb_app.specs.Output.{sent_frame}
use Rattle.fisb_app.proofs.Turning.{frames-more, line-alike}
use Rattle.fisb_app.proofs.ground_alone.GroundAlone.turn.Goals as goal

pub returns-clause-acted : goal.returns-clause-acted
returns-clause-acted g c = λ bytes acted h.
    let table = c.args.self.now.sending.table in
    let index = h.sent in
    let on = c.in-Ok.ensures.frame bytes acted h.holds in
    let sent = frame_after table (station_after acted) (events acted) c.args.moment c.args.slot in
    let same = c.in-Ok.ensures.table in
    let more = frames-more table acted c.args.moment c.args.slot in (
      ap (λ i. turn_refusal i acted c.args.moment) (sym index) ∙ c.in-Ok.ensures.in_time bytes acted h.holds,
      (
        c.of.ensures ∙ line-alike c.args.self.now.sent true sent c.in-Ok.frame on
            ∙ ap (λ i. sent_line i (sent_frame sent) true) index,
        record {
          holds = c.in-Ok.ensures.filled bytes acted h.holds;
          sent = ap (λ n. n + 1) index ∙ sym (length_push (sent_frames table acted) sent) ∙ ap length (sym more)
              ∙ ap (λ t. length (sent_frames t (turn c.args.moment c.args.slot ∷ acted))) (sym same);
        },
      ),
    )
