-- What is known of the lines that a link acted on: a broadcast, and hearings of it in time, which are what was received.
use Rattle.std.proofs.Common.{◌≡◌, ℕ, ◌+◌, ◌<◌, ◌≤◌, nat_lt, Bool, true, false, if◌then◌else◌, List, [], ◌∷◌, Option, Some, None, option_map, refl, sym, ap, ◌∙◌, arith, slice_get}
use Rattle.std.specs.Option.{option_or, option_and_then}
use Rattle.std.specs.List.{cons_option}
use Rattle.std.proofs.lemmas.Bool.{and_parts}
use Rattle.std.proofs.lemmas.Bool.Decides.{nat_tests}
use Rattle.list_members.specs.ListMembers.{got_in}
use Rattle.list_members.specs.Tests.{none_mapped}
use Rattle.bit_fields.specs.BytesAsNumbers.{AreBytes-at}
use Rattle.uplink_frame.specs.Station.{FitsStation}
use Rattle.uplink_weave.specs.Laws.{NearFrameGivesPayload}
use Rattle.uplink_weave.specs.Functions.{payload_in, lost_block_in}
use Rattle.fisb_time.specs.Moment.{IsMoment}
use Rattle.life_table.specs.LifeTable.{LifeTable}
use Rattle.life_table.specs.Rules.{IsTable}
use Rattle.ground_core.specs.Update as updates
use Rattle.ground_core.specs.Update.{IsUpdate}
use Rattle.ground_core.specs.History.{Event, accepted, fill}
use Rattle.ground_core.specs.InTime.{not_before}
use Rattle.ground_core.specs.Airing.{Frame, frame_payload}
use Rattle.ground_core.specs.Broadcast.{StationEvent, IsBroadcast, IsNext, frames}
use Rattle.ground_core.specs.Sent.{FramesReadBack}
use Rattle.receiver_core.specs.Reception.{Reception, received_picture}
use Rattle.receiver_core.specs.Hearing.{clock_of, is_valid, payload_refusal, refusal_of_air, clock, lost, no_application}
use Rattle.segment_core.specs.InTime as stores
use Rattle.segment_core.specs.Store.{IsNotBefore, last_above}
use Rattle.fisb_link.specs.LinkPicture.{link_picture}
use Rattle.fisb_link.specs.Hearing.{IsInTime, IsAfterHearings, AreHeard, receptions_of, payload_sent}
use Rattle.fisb_link.specs.PicturesAgree.{PicturesAgree, HearingsStay}
use Rattle.script_core.specs.Script.{Line, empty, station, text, radar, blank, turn, hear, show}
use Rattle.script_core.specs.LineView.{HasRanges}
use Rattle.refusal_core.specs.declared.reason.Reason.TheVariants.{Clock, Early, Late}
use Rattle.fisb_app.specs.declared.party.Party.TheVariants.{Link}
use Rattle.fisb_app.specs.Past.{at_station, broadcast, events, receiver_clock, hearings, station_after, sent_frames, air_of, air_heard, reception_from, received_frame, reception_by, receptions}
use Rattle.fisb_app.specs.Reading.{refusal_of, front_refusal, own_refusal, station_clock_refusal, update_refusal, frame_refusal, receiver_refusal, earlier_than, reason_of_update}
use Rattle.fisb_app.specs.Damage.{all_near, has_near_blocks, is_near_frame}
use Rattle.fisb_app.proofs.Judging.{or-none, IsClear, clear}
use Rattle.fisb_app.proofs.Damaged.{near-blocks}

-- what lower crates promise
pub record Laws : Type 0 where
  pub near : NearFrameGivesPayload
  pub frames_back : FramesReadBack
  pub stay : HearingsStay
  pub agree : PicturesAgree

pub record IsSound (table : LifeTable) (acted : List Line) : Type 0 where
  pub station : FitsStation (station_after acted)
  pub is_broadcast : IsBroadcast table (broadcast acted)
  pub heard : AreHeard table.late (sent_frames table acted) (hearings acted)
  pub received_is : all_near table acted ≡ true → receptions table acted ≡ receptions_of (sent_frames table acted) (hearings acted)
  pub heard_before : (moment : ℕ) → IsNotBefore (receiver_clock acted) moment → IsAfterHearings moment (hearings acted)

pub sound-start : (table : LifeTable) → IsSound table []
sound-start table = record {
  station = record { lat = omega arith; lon = omega arith; site = omega arith };
  is_broadcast = tt;
  heard = tt;
  received_is = λ near. refl;
  heard_before = λ moment is. tt;
}

-- a moment that the clock of the receiver lets pass is not before it, nor is a later one
pub not-behind : (moment : ℕ) (last : Option ℕ) → option_map Clock (earlier_than (Some moment) last) ≡ None → IsNotBefore last moment
not-behind moment last e = stores.not_before last moment (none_mapped Clock (last_above last moment) e)

pub behind-past : (moment own : ℕ) (last : Option ℕ) → own ≤ moment → IsNotBefore last own → IsNotBefore last moment
behind-past moment own None after is = tt
behind-past moment own (Some kept) after is = omega (arith, after, is)

-- a frame that was sent is received as it was sent, where each of its blocks is near
pub received-near : Laws → (table : LifeTable) (sent : List StationEvent) (past : List Reception) (moment place : ℕ) (air : List ℕ) (frame : Frame) → IsTable table
    → IsBroadcast table sent → receiver_refusal past moment ≡ None → slice_get (frames table sent) place ≡ Some frame → has_near_blocks air (air_of frame) ≡ true
    → reception_from past moment air ≡ Some (record { moment = moment; payload = frame_payload frame })
received-near laws table sent past moment place air frame rules sound none found near =
    let is = laws.frames_back table sent frame rules sound (got_in frame (frames table sent) place found) in
    let woven = laws.near (frame_payload frame) air is.size (AreBytes-at _ is.bytes) (near-blocks air (air_of frame) near) in
    let valid : is_valid (frame_payload frame) ≡ true = ap (λ h. h.app_valid) is.header_back in
    let timely = none_mapped Clock (last_above (clock_of past) moment) none in
    let first : refusal_of_air past moment air ≡ option_or (option_map lost (lost_block_in air)) (option_and_then payload_refusal (payload_in air)) =
    ap (λ c. option_or (option_map clock c) (option_or (option_map lost (lost_block_in air)) (option_and_then payload_refusal (payload_in air)))) timely in
    let second : refusal_of_air past moment air ≡ option_and_then payload_refusal (payload_in air) =
    first ∙ ap (λ l. option_or (option_map lost l) (option_and_then payload_refusal (payload_in air))) woven.2 in
    let third : refusal_of_air past moment air ≡ payload_refusal (frame_payload frame) = second ∙ ap (option_and_then payload_refusal) woven.0 in
    let fourth : refusal_of_air past moment air ≡ None = third ∙ ap (λ v. if v then None else Some no_application) valid in
    ap (λ r. reception_by r moment (payload_in air)) fourth ∙ ap (reception_by None moment) woven.0

-- against a frame that is heard in time nothing stands
late-none : (allowed moment sent : ℕ) → (if nat_lt (sent + allowed) moment then Some Late else None) ≡ None → moment ≤ sent + allowed
late-none allowed moment sent e = grind (arith, nat_tests)

time-none : (allowed moment sent : ℕ) (early : Bool) → nat_lt moment sent ≡ early → (if early then Some Early else (if nat_lt (sent + allowed) moment then Some Late else None)) ≡ None
    → (sent ≤ moment) × (moment ≤ sent + allowed)
time-none allowed moment sent true is e = cc
time-none allowed moment sent false is e = (grind (arith, nat_tests), late-none allowed moment sent e)

in-time : (allowed moment : ℕ) (found : Option Frame) → frame_refusal allowed moment found ≡ None → IsInTime allowed found moment
in-time allowed moment None e = cc
in-time allowed moment (Some frame) e = time-none allowed moment frame.moment (nat_lt moment frame.moment) refl e

-- the reception of a line that is heard
reception-heard : Laws → (table : LifeTable) (acted : List Line) (past : List Reception) (moment place : ℕ) (wrong : List (ℕ × ℕ)) (found : Option Frame) → IsTable table
    → IsBroadcast table (broadcast acted) → receiver_refusal past moment ≡ None → slice_get (sent_frames table acted) place ≡ found → IsInTime table.late found moment
    → is_near_frame wrong found ≡ true → received_frame past moment wrong found ≡ Some (record { moment = moment; payload = payload_sent found })
reception-heard laws table acted past moment place wrong None rules sound none is in_time near = absurd in_time
reception-heard laws table acted past moment place wrong (Some frame) rules sound none is in_time near =
    received-near laws table (broadcast acted) past moment place (air_heard wrong (air_of frame)) frame rules sound none is near

-- what is known of a broadcast with an event more
record IsSoundWith (table : LifeTable) (acted : List Line) (sent : List StationEvent) : Type 0 where
  is_broadcast : IsBroadcast table sent
  heard : AreHeard table.late (frames table sent) (hearings acted)
  received_is : all_near table acted ≡ true → receptions table acted ≡ receptions_of (frames table sent) (hearings acted)

-- what is known with an event more of the station that was named last
sound-event : Laws → (table : LifeTable) (acted : List Line) (event : Event) → IsNext table (station_after acted) (events acted) event → IsSound table acted
    → IsSoundWith table acted (at_station (station_after acted) event ∷ broadcast acted)
sound-event laws table acted event next s =
    let still = laws.stay table (at_station (station_after acted) event) (broadcast acted) (hearings acted) s.heard in
    record {
      is_broadcast = (s.station, next, s.is_broadcast);
      heard = still.still_heard;
      received_is = λ near. s.received_is near ∙ sym still.received;
    }

-- an update that is accepted, and a fill, are the next event of the broadcast
sound-update : Laws → (table : LifeTable) (acted : List Line) (moment : ℕ) (update : updates.Update) → IsMoment moment → IsUpdate update
    → update_refusal table acted moment update ≡ None → IsSound table acted
    → IsSoundWith table acted (at_station (station_after acted) (accepted moment update) ∷ broadcast acted)
sound-update laws table acted moment update timely is own s =
    let both = or-none (station_clock_refusal acted moment) _ own in
    sound-event laws table acted (accepted moment update) (record {
      is_accepted = (is, none_mapped reason_of_update _ both.1);
      moment_is = timely;
      not_before = not_before (events acted) moment (none_mapped Clock _ both.0);
    }) s

sound-turn : Laws → (table : LifeTable) (acted : List Line) (moment slot : ℕ) → IsMoment moment → slot < 32
    → own_refusal Link table acted (turn moment slot) ≡ None → IsSound table acted
    → IsSoundWith table acted (at_station (station_after acted) (fill moment slot) ∷ broadcast acted)
sound-turn laws table acted moment slot timely below own s =
    let both = or-none (station_clock_refusal acted moment) _ own in
    sound-event laws table acted (fill moment slot) (record {
      is_accepted = below;
      moment_is = timely;
      not_before = not_before (events acted) moment (none_mapped Clock _ both.0);
    }) s

sound-hear : Laws → (table : LifeTable) (acted : List Line) (moment number size : ℕ) (wrong : List (ℕ × ℕ)) → IsTable table → HasRanges size (hear moment number wrong)
    → IsClear Link acted (hear moment number wrong) → own_refusal Link table acted (hear moment number wrong) ≡ None → IsSound table acted
    → IsSound table (hear moment number wrong ∷ acted)
sound-hear laws table acted moment number size wrong rules ranges is own s =
    let behind = not-behind moment (receiver_clock acted) is.clock in
    let found = slice_get (sent_frames table acted) number in
    let both = or-none (frame_refusal table.late moment found) (receiver_refusal (receptions table acted) moment) own in
    let time = in-time table.late moment found both.0 in
    record {
      station = s.station;
      is_broadcast = s.is_broadcast;
      heard = (time, ranges.0, s.heard_before moment behind, s.heard);
      received_is = λ near.
          let (own_near, past_near) = and_parts (is_near_frame wrong found) (all_near table acted) near in
          ap (λ o. cons_option o (receptions table acted))
          (reception-heard laws table acted (receptions table acted) moment number wrong found rules s.is_broadcast both.1 refl time own_near)
          ∙ ap (λ rest. record { moment = moment; payload = payload_sent found } ∷ rest) (s.received_is past_near);
      heard_before = λ m after. after;
    }

sound-show : (table : LifeTable) (acted : List Line) (moment : ℕ) → IsClear Link acted (show moment) → IsSound table acted → IsSound table (show moment ∷ acted)
sound-show table acted moment is s =
    let behind = not-behind moment (receiver_clock acted) is.clock in
    record {
      station = s.station;
      is_broadcast = s.is_broadcast;
      heard = s.heard;
      received_is = s.received_is;
      heard_before = λ m after. s.heard_before m (behind-past m moment (receiver_clock acted) after behind);
    }

own-none : (table : LifeTable) (acted : List Line) (line : Line) → refusal_of Link table acted line ≡ None → own_refusal Link table acted line ≡ None
own-none table acted line e = (or-none (front_refusal Link (receiver_clock acted) line) (own_refusal Link table acted line) e).1

-- a line more that was acted on
pub sound-line : Laws → (table : LifeTable) (acted : List Line) (line : Line) (size : ℕ) → IsTable table → HasRanges size line
    → refusal_of Link table acted line ≡ None → IsSound table acted → IsSound table (line ∷ acted)
sound-line laws table acted empty size rules ranges e s = record { station = s.station; is_broadcast = s.is_broadcast; heard = s.heard; received_is = s.received_is; heard_before = s.heard_before }
sound-line laws table acted (station named) size rules ranges e s =
    record { station = ranges; is_broadcast = s.is_broadcast; heard = s.heard; received_is = s.received_is; heard_before = s.heard_before }
sound-line laws table acted (text moment version chars) size rules ranges e s =
    let with = sound-update laws table acted moment (updates.text version chars) ranges.0 (ranges.1, ranges.2) (own-none table acted (text moment version chars) e) s in
    record { station = s.station; is_broadcast = with.is_broadcast; heard = with.heard; received_is = with.received_is; heard_before = s.heard_before }
sound-line laws table acted (radar moment version key cells) size rules ranges e s =
    let with = sound-update laws table acted moment (updates.block version key cells) ranges.0 (ranges.1, ranges.3) (own-none table acted (radar moment version key cells) e) s in
    record { station = s.station; is_broadcast = with.is_broadcast; heard = with.heard; received_is = with.received_is; heard_before = s.heard_before }
sound-line laws table acted (blank moment version product scale south numbers) size rules ranges e s =
    let with = sound-update laws table acted moment (updates.blanks version product scale south numbers) ranges.0 ranges.1 (own-none table acted (blank moment version product scale south numbers) e) s in
    record { station = s.station; is_broadcast = with.is_broadcast; heard = with.heard; received_is = with.received_is; heard_before = s.heard_before }
sound-line laws table acted (turn moment slot) size rules ranges e s =
    let with = sound-turn laws table acted moment slot ranges.0 ranges.1 (own-none table acted (turn moment slot) e) s in
    record { station = s.station; is_broadcast = with.is_broadcast; heard = with.heard; received_is = with.received_is; heard_before = s.heard_before }
sound-line laws table acted (hear moment number wrong) size rules ranges e s =
    sound-hear laws table acted moment number size wrong rules ranges (clear Link acted _ (or-none _ _ e).0) (or-none _ _ e).1 s
sound-line laws table acted (show moment) size rules ranges e s =
    sound-show table acted moment (clear Link acted _ (or-none _ _ e).0) s
sound-line laws table acted line size rules ranges e s = cc

-- at a moment that a line may have both pictures are one, where each block that was heard is near
pub pictures-same : Laws → (table : LifeTable) (acted : List Line) (moment : ℕ) → IsTable table → refusal_of Link table acted (show moment) ≡ None → IsSound table acted
    → all_near table acted ≡ true → received_picture table (receptions table acted) moment ≡ link_picture table (broadcast acted) (hearings acted) moment
pictures-same laws table acted moment rules e s near =
    let is = clear Link acted (show moment) (or-none _ _ e).0 in
    ap (λ heard. received_picture table heard moment) (s.received_is near)
    ∙ laws.agree table (broadcast acted) (hearings acted) moment rules s.is_broadcast s.heard (s.heard_before moment (not-behind moment (receiver_clock acted) is.clock))
