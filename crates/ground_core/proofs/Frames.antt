-- The frames of a broadcast: what they air, and what their payloads read back as.
use Rattle.std.proofs.Common.{◌≡◌, ℕ, ◌+◌, ◌≤◌, List, [], ◌∷◌, ◌++◌, length, map, sum_by, is_some, refl, sym, ap, subst, ◌∙◌, inl, inr, arith}
use Rattle.std.proofs.lemmas.List.Sums.{sum_by-cons}
use Rattle.std.proofs.lemmas.Simd.{map-map}
use Rattle.life_table.specs.LifeTable.{LifeTable}
use Rattle.life_table.specs.Rules.{IsTable}
use Rattle.apdu_core.specs.Laws.{ReadsBack}
use Rattle.uplink_frame.specs.declared.station.StationId.{StationId}
use Rattle.uplink_frame.specs.Station.{FitsStation, header_of}
use Rattle.uplink_frame.specs.UplinkFrame.{InformationFrame, fisb_frame, spelled_frames}
use Rattle.uplink_frame.specs.Laws.{StationsAreTold, IsBody, frames_size, BodiesComeBack, FramesHaveSize}
use Rattle.uplink_frame.specs.Laws as uplink
use Rattle.segment_core.specs.Cutting.{PartsFitFrames}
use Rattle.segment_core.specs.File.{apdu_of_segment}
use Rattle.list_members.specs.Membership.{IsIn}
use Rattle.list_members.specs.Members.{IsIn-before, IsIn-either}
use Rattle.list_members.specs.ListMembers.{in_map, in_one, All-members}
use Rattle.uplink_frame.specs.UplinkFrame.{frame_room}
use Rattle.ground_core.specs.Item.{Item, Segment, segments_of, file_of, room_of, body_of}
use Rattle.ground_core.specs.History.{Event, accepted, fill, new_items, items}
use Rattle.ground_core.specs.Airing.{Frame, frame_after, used_room, waiting_segments, log}
use Rattle.ground_core.specs.Broadcast.{StationEvent, IsBroadcast, IsNext, history_of, frames_of_event, frames, all_items}
use Rattle.ground_core.specs.Sound.{IsSound, AcceptedIsGiven, HistoriesHaveItems}
use Rattle.ground_core.specs.Sent.{IsFrame, FramesReadBack, fisb_frames_of}
use Rattle.ground_core.proofs.Segments.{body_size, is_segment_of}
use Rattle.ground_core.proofs.Stations.{station-history, of_all}
use Rattle.ground_core.proofs.Aired.{fitting-fits, aired-after, items-lead}

-- what the crates below promise of frames and bodies, and this one of items
pub record FrameLayers : Type 0 where
  pub stations : StationsAreTold
  pub bodies : BodiesComeBack
  pub size : FramesHaveSize
  pub apdus : ReadsBack
  pub parts : PartsFitFrames
  pub given : AcceptedIsGiven
  pub items_are : HistoriesHaveItems

used-size : FrameLayers → (segments : List Segment) → sum_by room_of segments ≡ frames_size (map body_of segments)
used-size layers [] = refl
used-size layers (s ∷ more) =
    let rest = used-size layers more in
    let sums = sum_by-cons room_of s more in
    let sizes = sum_by-cons (λ (body : List ℕ). 2 + length body) (body_of s) (map body_of more) in
    let room = body_size (layers.apdus).size s in
    omega arith

room-within : (s : Segment) (segments : List Segment) → IsIn s segments → room_of s ≤ sum_by room_of segments
room-within s [] h = absurd h
room-within s (x ∷ more) (inl e) =
    let sums = sum_by-cons room_of x more in
    let own : room_of s ≡ room_of x = ap room_of e in
    omega arith
room-within s (x ∷ more) (inr h) =
    let sums = sum_by-cons room_of x more in
    let rest = room-within s more h in
    omega arith

body-is : FrameLayers → (table : LifeTable) (s : Segment) → IsSound table s.item.weather → IsIn s (segments_of s.item) → room_of s ≤ frame_room
    → IsBody (body_of s)
body-is layers table s sound own small =
    let number = is_segment_of s.item s own in
    let part = layers.parts (file_of s.item) s.number number.least number.most in
    let apdu = apdu_of_segment (file_of s.item) s.number in
    let size = (layers.apdus).size apdu in
    let least = (layers.apdus).header_least apdu.form (is_some apdu.segmentation) in
    let room = body_size (layers.apdus).size s in
    record {
      some = omega arith;
      most = omega arith;
      bytes = (layers.apdus).bytes apdu (part.bytes sound.bytes);
    }

-- the frame of a fill
new-frame : FrameLayers → (table : LifeTable) (station : StationId) (past : List StationEvent) (moment slot : ℕ) → IsTable table → FitsStation station
    → IsNext table station (history_of station past) (fill moment slot) → IsBroadcast table past
    → IsFrame (all_items table past) (frame_after table station (history_of station past) moment slot)
new-frame layers table station past moment slot is_table fits next is =
    let before = history_of station past in
    let frame = frame_after table station before moment slot in
    let history = station-history layers.stations table past is station in
    let are = layers.items_are table station before is_table history in
    let all_fit = fitting-fits frame_room (waiting_segments (items table station before) (log table station before) moment) in
    let sizes = used-size layers frame.segments in
    let bodies : (body : List ℕ) → IsIn body (map body_of frame.segments) → IsBody body = λ body h.
    let found = in_map body_of body frame.segments h in
    let aired = aired-after table station before moment found.0 found.1 in
    let within = room-within found.0 frame.segments found.1 in
    subst IsBody (sym found.2) (body-is layers table found.0 (are.sound (found.0).item (aired.of_item).item) (aired.of_item).of_item (omega arith)) in
    let back = layers.bodies station slot (map body_of frame.segments) fits next.is_accepted (All-members IsBody (map body_of frame.segments) bodies) (omega arith) in
    let same = map-map fisb_frame body_of frame.segments in
    let spelled : length (spelled_frames (map fisb_frame (map body_of frame.segments))) ≡ frames_size (map body_of frame.segments) =
    layers.size (map body_of frame.segments) in
    let spelled_is : used_room frame ≡ length (spelled_frames (fisb_frames_of frame)) =
    sizes ∙ sym spelled ∙ ap (λ fs. length (spelled_frames fs)) same in
    let payload = subst (λ (fs : List InformationFrame). uplink.ReadsBack (header_of station slot) fs) same back.payload in
    record {
      station = fits;
      slot = next.is_accepted;
      moment = next.moment_is;
      aired = λ s h.
          let aired = aired-after table station before moment s h in
          let item_in = (aired.of_item).item in
          record {
            item_in = of_all layers.stations table past station s.item item_in;
            of_item = (aired.of_item).of_item;
            of_station = are.of_station s.item item_in;
            not_ahead = items-lead layers.given table station before moment s.item is_table history next.not_before item_in;
            live = aired.live;
          };
      fits = all_fit;
      spelled = spelled_is;
      size = payload.size;
      bytes = payload.bytes;
      header_back = payload.header_back;
      frames_back = payload.frames_back;
    }

old-frame : (all more : List Item) (frame : Frame) → IsFrame all frame → IsFrame (all ++ more) frame
old-frame all more frame is = record {
  station = is.station;
  slot = is.slot;
  moment = is.moment;
  aired = λ s h. let a = is.aired s h in record {
    item_in = IsIn-before s.item all more a.item_in;
    of_item = a.of_item;
    of_station = a.of_station;
    not_ahead = a.not_ahead;
    live = a.live;
  };
  fits = is.fits;
  spelled = is.spelled;
  size = is.size;
  bytes = is.bytes;
  header_back = is.header_back;
  frames_back = is.frames_back;
}

of-event : FrameLayers → (table : LifeTable) (station : StationId) (past : List StationEvent) (event : Event) (frame : Frame) → IsTable table → FitsStation station
    → IsNext table station (history_of station past) event → IsBroadcast table past
    → IsIn frame (frames_of_event table station (history_of station past) event) → IsFrame (all_items table past) frame
of-event layers table station past (accepted moment update) frame is_table fits next is h = absurd h
of-event layers table station past (fill moment slot) frame is_table fits next is h =
    subst (IsFrame (all_items table past)) (sym (in_one frame (frame_after table station (history_of station past) moment slot) h))
    (new-frame layers table station past moment slot is_table fits next is)

pub frames-read_back : FrameLayers → FramesReadBack
frames-read_back layers table [] frame is_table is h = absurd h
frames-read_back layers table (b ∷ past) frame is_table is h =
    let all = all_items table past in
    let new = new_items table b.station (items table b.station (history_of b.station past)) b.event in
    elim (IsIn-either frame (frames table past) (frames_of_event table b.station (history_of b.station past) b.event) h) [
      | inl old ↦ old-frame all new frame (frames-read_back layers table past frame is_table is.2 old)
      | inr last ↦ old-frame all new frame (of-event layers table b.station past b.event frame is_table is.0 is.1 is.2 last)
    ]
