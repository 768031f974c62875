use Rattle.std.proofs.Common.{◌≡◌, None, refl, ap, ◌∙◌, map, length, rules}
use Rattle.uplink_frame.specs.UplinkFrame.{fisb_frame, payload_of, spelled_frames}
use Rattle.uplink_frame.specs.Station.{header_of}
use Rattle.uplink_weave.specs.Functions.{woven_frame}
use Rattle.ground_core.specs.Item.{body_of}
use Rattle.segment_core.specs.Store.{last_above}
use Rattle.ground_core.specs.StandsFor.{history_clock}
use Rattle.ground_core.specs.Starving.{aired_after}
use Rattle.ground_core.specs.Views.{pieces_in}
use Rattle.ground_core.proofs.State.{fill_stands}
use Rattle.ground_core.proofs.OnAir.{aired_pieces, frames_are, used_is, bodies_are}
use Rattle.ground_core.proofs.ground.Ground.fill.Goals as goal

pub returns-clause-filled : goal.returns-clause-filled
returns-clause-filled c table station history s =
    let in_time : last_above (history_clock history) c.args.moment ≡ None = search rules in
    fill_stands c.stations_are_told.ensures (record { same = c.keys_are_ordered.ensures.same; agrees = c.keys_are_ordered.ensures.agrees }) table station history c.args.moment c.args.slot c.args.self.now _ s in_time c.requires c.last_above.ensures.in_range (record {
      table = refl;
      station = refl;
      clock = refl;
      given = refl;
      newest = c.air-bodies.ensures.kept;
      files = c.forget.ensures;
      line = c.air-bodies.ensures.line;
      placed = c.air-bodies.ensures.placed;
      among = c.air-bodies.ensures.among;
    })

pub returns-clause-frame : goal.returns-clause-frame
returns-clause-frame c table station history s =
    let in_time : last_above (history_clock history) c.args.moment ≡ None = search rules in
    let sent = aired_after table station history c.args.moment in
    let pieces = aired_pieces c.stations_are_told.ensures (record { same = c.keys_are_ordered.ensures.same; agrees = c.keys_are_ordered.ensures.agrees }) table station history c.args.moment c.args.slot c.args.self.now (pieces_in c.air-bodies.new.self) s in_time c.air-bodies.ensures.line in
    let frames = c.air-bodies.ensures.frames ∙ frames_are _ sent pieces in
    record {
      moment = refl;
      slot = refl;
      bodies = c.air-bodies.ensures.number ∙ bodies_are _ sent pieces;
      used = c.used_bytes.ensures.used ∙ ap (λ f. length (spelled_frames f)) frames ∙ used_is c.apdu_reads_back.ensures.size sent;
      air = c.air_of.ensures ∙ ap (λ f. woven_frame (payload_of (header_of c.args.self.now.station c.args.slot) f)) frames
          ∙ ap (λ p. woven_frame (payload_of (header_of p c.args.slot) (map (λ x. fisb_frame (body_of x)) sent))) s.station_is;
    }
