-- A turn, a hearing and a picture of a workload: what was made with one more.
use Rattle.std.proofs.Common.{◌≡◌, ◌≢◌, ℕ, ◌+◌, ◌-◌, ◌<◌, ◌≤◌, nat_lt, true, false, if◌then◌else◌, Bool, List, [], ◌∷◌, ◌++◌, length, Option, Some, None, option_map, Ok, refl, sym, ap, subst, ◌∙◌, arith, rules, tests, slice_get}
use Rattle.std.specs.Option.{option_or}
use Rattle.std.specs.List.{cons_option}
use Rattle.std.proofs.lemmas.List.{length-map, length_push}
use Rattle.list_members.specs.ListMembers.{slice_get_after}
use Rattle.list_members.specs.Tests.{or_none, zero_more}
use Rattle.uplink_weave.specs.Functions.{length-woven_frame, payload_in, counts_in}
use Rattle.ground_core.specs.Sent.{HistoriesGrow}
use Rattle.life_table.specs.LifeTable.{LifeTable}
use Rattle.segment_core.specs.Store.{last_above}
use Rattle.picture_core.specs.Views.{entry_view, shown_value}
use Rattle.picture_core.specs.declared.entry.Entry.{Entry as ShownEntry}
use Rattle.ground_core.specs.History.{fill}
use Rattle.ground_core.specs.Airing.{Frame, frame_after, frame_payload}
use Rattle.ground_core.specs.OnAir.{IsOnAir, history_clock}
use Rattle.ground_core.specs.declared.air_frame.AirFrame.{AirFrame}
use Rattle.receiver_core.specs.Reception.{Reception, received_picture}
use Rattle.receiver_core.specs.Hearing as heard
use Rattle.receiver_core.specs.Hearing.{refusal_of_air, IsPictureOf}
use Rattle.receiver_core.specs.Answers.{HasHeard, HasTakenPayload}
use Rattle.receiver_core.specs.declared.heard.Heard.{Heard}
use Rattle.script_core.specs.Script.{Line, turn, hear, show}
use Rattle.refusal_core.specs.declared.reason.Reason.{Reason}
use Rattle.refusal_core.specs.declared.reason.Reason.TheVariants.{Clock, Frames}
use Rattle.workload.specs.declared.step.Step.TheVariants as steps
use Rattle.workload.specs.Hearings.{frame_with_changes as changed_frame}
use Rattle.fisb_app.specs.declared.making.Making.{Making}
use Rattle.fisb_app.specs.declared.counts.Counts.{Counts}
use Rattle.fisb_app.specs.Past.{at_station, broadcast, events, station_after, sent_frames, receptions, air_of, air_heard, reception_from, reception_by, received_frame}
use Rattle.fisb_app.specs.Reading.{station_clock_refusal, turn_refusal, frame_refusal, receiver_refusal, frame_limit}
use Rattle.fisb_app.specs.Stands.{Sends, Hears}
use Rattle.fisb_app.specs.Make.{acted_unless, after_step, total, corrected_by, corrected_bytes, corrected_in, entries_by, last_frame, last_number, wrong_in}
use Rattle.fisb_app.specs.MakingHolds.{MakingHolds, aired_one}
use Rattle.fisb_app.proofs.Turning.{frames-more, aired-alike}
use Rattle.fisb_app.proofs.Receiving.{no-clock}
use Rattle.fisb_app.proofs.Changing.{changes-heard}
use Rattle.fisb_app.proofs.Stepping.{IsNextStep, same-counts, acted-step, refused-step}

-- the last one of a list
pub last-more : (xs : List Frame) (x : Frame) → last_frame (xs ++ x ∷ []) ≡ Some x
last-more xs x =
    let long = length_push xs x in
    let place : length (xs ++ x ∷ []) - 1 ≡ length xs = omega (arith, long) in
    ap (slice_get (xs ++ x ∷ [])) place ∙ slice_get_after xs [] x

pub turn-step : (table : LifeTable) (acted : List Line) (moment slot : ℕ)
    → after_step table acted (steps.Turn moment slot) ≡ acted_unless (turn_refusal (length (sent_frames table acted)) acted moment) (turn moment slot) acted
unfolding after_step
turn-step table acted moment slot = refl

pub hear-step : (table : LifeTable) (acted : List Line) (moment : ℕ) (changes : List (ℕ × ℕ))
    → IsNextStep table acted (steps.Hear moment changes) moment (hear moment (last_number (sent_frames table acted)) (wrong_in changes (last_frame (sent_frames table acted))))
    (option_or (frame_refusal table.late moment (last_frame (sent_frames table acted))) (receiver_refusal (receptions table acted) moment))
unfolding after_step
hear-step table acted moment changes = record { after = refl; moment_is = refl }

pub show-step : (table : LifeTable) (acted : List Line) (moment : ℕ)
    → IsNextStep table acted (steps.Show moment) moment (show moment) (receiver_refusal (receptions table acted) moment)
unfolding after_step
show-step table acted moment = record { after = refl; moment_is = refl }

-- the frames are full, or the frame is one more
pub full-turn : (count : ℕ) (acted : List Line) (moment : ℕ) → frame_limit ≤ count → (why : Reason) × (turn_refusal count acted moment ≡ Some why)
full-turn count acted moment full =
    let test : nat_lt count frame_limit ≡ false = search (rules, tests) in
    told (station_clock_refusal acted moment) (nat_lt count frame_limit) test
  where
    told : (early : Option Reason) (room : Bool) → room ≡ false → (why : Reason) × (option_or early (if room then None else Some Frames) ≡ Some why)
    told None room none = (Frames, ap (λ b. if b then None else Some Frames) none)
    told (Some why) room none = (why, refl)

pub room-turn : (count : ℕ) (acted : List Line) (moment : ℕ) (last : Option ℕ) → count < frame_limit → last_above (history_clock (events acted)) moment ≡ last
    → turn_refusal count acted moment ≡ option_map Clock last
room-turn count acted moment last room is =
    let test : nat_lt count frame_limit ≡ true = search (rules, tests) in
    ap (λ b. option_or (station_clock_refusal acted moment) (if b then None else Some Frames)) test ∙ or_none (station_clock_refusal acted moment) ∙ ap (option_map Clock) is

pub turn-made : HistoriesGrow → {G E : Type 0} (sends : Sends G) (hears : Hears E) (table : LifeTable) (acted : List Line) (moment slot : ℕ) (old : Making G E) (ground : G) (frame : AirFrame)
    → MakingHolds sends hears table acted old → sends table (station_after acted) (fill moment slot ∷ events acted) ground
    → IsOnAir (frame_after table (station_after acted) (events acted) moment slot) frame
    → MakingHolds sends hears table (turn moment slot ∷ acted) (record old {
      ground = ground;
      last = Some (record { moment = frame.moment; air = frame.air });
      counts = record old.counts { turns = old.counts.turns + 1 };
    })
turn-made grow sends hears table acted moment slot old ground frame h s on =
    let sent = frame_after table (station_after acted) (events acted) moment slot in
    let more = frames-more table acted moment slot in record {
      ground = subst (λ past. sends table (station_after acted) past ground) (sym (grow (at_station (station_after acted) (fill moment slot)) (broadcast acted)).own) s;
      ear = h.ear;
      late = h.late;
      clock = h.clock;
      last = ap Some (aired-alike sent frame on) ∙ ap aired_one (sym (last-more (sent_frames table acted) sent)) ∙ ap (λ frames. aired_one (last_frame frames)) (sym more);
      counts = same-counts _ _
          (ap (λ (c : Counts). c.updates) h.counts ∙ zero_more _)
          (ap (λ (c : Counts). c.turns + 1) h.counts ∙ sym (length_push (sent_frames table acted) sent) ∙ ap length (sym more))
          (ap (λ (c : Counts). c.heard) h.counts)
          (ap (λ (c : Counts). c.corrected) h.counts ∙ zero_more _)
          (ap (λ (c : Counts). c.entries) h.counts ∙ zero_more _);
    }

-- a picture more
pub show-made : {G E : Type 0} (sends : Sends G) (hears : Hears E) (table : LifeTable) (acted : List Line) (moment : ℕ) (old : Making G E) (entries : List ShownEntry) (sum : ℕ)
    → MakingHolds sends hears table acted old → IsPictureOf table (receptions table acted) moment entries → sum ≡ old.counts.entries + length entries
    → MakingHolds sends hears table (show moment ∷ acted) (record old { counts = record old.counts { entries = sum }; clock = Some moment })
show-made sends hears table acted moment old entries sum h shown is =
    let past = receptions table acted in
    let many : length entries ≡ length (received_picture table past moment) = sym (length-map entries entry_view) ∙ ap length shown ∙ length-map (received_picture table past moment) shown_value in record {
      ground = h.ground;
      ear = h.ear;
      late = h.late;
      clock = refl;
      last = h.last;
      counts = same-counts _ _
          (ap (λ (c : Counts). c.updates) h.counts ∙ zero_more _)
          (ap (λ (c : Counts). c.turns) h.counts)
          (ap (λ (c : Counts). c.heard) h.counts)
          (ap (λ (c : Counts). c.corrected) h.counts ∙ zero_more _)
          (is ∙ ap (λ (c : Counts). c.entries + length entries) h.counts ∙ ap (λ n. total entries_by table acted + n) many);
    }

-- what is heard of the frame that was sent last, with its changes
heard-air : (changes : List (ℕ × ℕ)) (found : Option Frame) (frame : Frame) → found ≡ Some frame → length (air_of frame) ≡ 552
    → air_heard (wrong_in changes found) (air_of frame) ≡ changed_frame changes (air_of frame)
heard-air changes found frame is long = ap (λ one. air_heard (wrong_in changes one) (air_of frame)) is ∙ changes-heard changes (air_of frame) long

pub heard-made : {G E : Type 0} (sends : Sends G) (hears : Hears E) (table : LifeTable) (acted : List Line) (moment : ℕ) (changes : List (ℕ × ℕ)) (old : Making G E) (ear : E) (frame : Frame) (air : List ℕ) (one : Option Reception) (count sum : ℕ)
    → MakingHolds sends hears table acted old → last_frame (sent_frames table acted) ≡ Some frame → length (air_of frame) ≡ 552 → air ≡ changed_frame changes (air_of frame)
    → reception_from (receptions table acted) moment air ≡ one → hears table (cons_option one (receptions table acted)) ear
    → count ≡ length (cons_option one (receptions table acted)) → sum ≡ old.counts.corrected + corrected_bytes one air
    → MakingHolds sends hears table (hear moment (last_number (sent_frames table acted)) (wrong_in changes (last_frame (sent_frames table acted))) ∷ acted) (record old {
      ear = ear;
      counts = record old.counts {
        heard = count;
        corrected = sum;
      };
      clock = Some moment;
    })
heard-made sends hears table acted moment changes old ear frame air one count sum h found long put is s counted summed =
    let sent = sent_frames table acted in
    let past = receptions table acted in
    let wrong = wrong_in changes (last_frame sent) in
    let same : air_heard wrong (air_of frame) ≡ air = heard-air changes (last_frame sent) frame found long ∙ sym put in
    let received : received_frame past moment wrong (last_frame sent) ≡ one = ap (received_frame past moment wrong) found ∙ ap (reception_from past moment) same ∙ is in record {
      ground = h.ground;
      ear = subst (λ r. hears table (cons_option r past) ear) (sym received) s;
      late = h.late;
      clock = refl;
      last = h.last;
      counts = same-counts _ _
          (ap (λ (c : Counts). c.updates) h.counts ∙ zero_more _)
          (ap (λ (c : Counts). c.turns) h.counts)
          (counted ∙ ap (λ r. length (cons_option r past)) (sym received))
          (summed ∙ ap (λ (c : Counts). c.corrected + corrected_bytes one air) h.counts ∙ ap (λ n. total corrected_by table acted + n)
          (ap (λ r. corrected_bytes r air) (sym is) ∙ ap (λ bytes. corrected_bytes (reception_from past moment bytes) bytes) (sym same) ∙ ap (corrected_in past moment wrong) (sym found)))
          (ap (λ (c : Counts). c.entries) h.counts ∙ zero_more _);
    }

-- what is known of a frame that was received
pub record IsReceived (stands : List Reception → Type 0) (past : List Reception) (moment : ℕ) (air corrected : List ℕ) : Type 0 where
  pub one : Reception
  pub is : reception_from past moment air ≡ Some one
  pub newest : stands (one ∷ past)
  pub counts : corrected ≡ counts_in air
  pub free : receiver_refusal past moment ≡ None

received-payload : (stands : List Reception → Type 0) (table : LifeTable) (past : List Reception) (moment : ℕ) (air : List ℕ) (answer : Heard) (payload : Option (List ℕ))
    → payload_in air ≡ payload → refusal_of_air past moment air ≡ None → receiver_refusal past moment ≡ None → HasTakenPayload stands table past moment payload (counts_in air) answer
    → IsReceived stands past moment air answer.corrected
received-payload stands table past moment air answer None is none free h = absurd h
received-payload stands table past moment air answer (Some payload) is none free h = record {
  one = record { moment = moment; payload = payload };
  is = ap (λ r. reception_by r moment (payload_in air)) none ∙ ap (reception_by None moment) is;
  newest = h.newest;
  counts = h.answered.corrected;
  free = free;
}

pub received : (stands : List Reception → Type 0) (table : LifeTable) (past : List Reception) (moment : ℕ) (air : List ℕ) (answer : Heard)
    → HasHeard stands table past (refusal_of_air past moment air) moment (payload_in air) (counts_in air) (Ok answer) → IsReceived stands past moment air answer.corrected
received stands table past moment air answer h =
    received-payload stands table past moment air answer (payload_in air) refl h.accepted (no-clock (last_above (heard.clock_of past) moment) _ None (λ kept e. cc) h.accepted) h.taken

-- no frame is heard: none was sent, or it is late
pub unheard-refused : (late moment : ℕ) (sent : Option Frame) (rest : Option Reason) → frame_refusal late moment sent ≢ None → (why : Reason) × (option_or (frame_refusal late moment sent) rest ≡ Some why)
unheard-refused late moment sent rest against = told (frame_refusal late moment sent) rest against
  where
    told : (own rest : Option Reason) → own ≢ None → (why : Reason) × (option_or own rest ≡ Some why)
    told None rest against = absurd (against refl)
    told (Some why) rest against = (why, refl)

-- a frame that is heard and not received
pub unreceived-made : {G E : Type 0} (sends : Sends G) (hears : Hears E) (table : LifeTable) (acted after : List Line) (moment : ℕ) (changes : List (ℕ × ℕ)) (old : Making G E) (ear : E) (frame : Frame) (air : List ℕ)
    → after ≡ acted_unless (option_or (frame_refusal table.late moment (last_frame (sent_frames table acted))) (receiver_refusal (receptions table acted) moment))
    (hear moment (last_number (sent_frames table acted)) (wrong_in changes (last_frame (sent_frames table acted)))) acted
    → frame_refusal table.late moment (last_frame (sent_frames table acted)) ≡ None → receiver_refusal (receptions table acted) moment ≡ None
    → reception_from (receptions table acted) moment air ≡ None → hears table (receptions table acted) ear
    → MakingHolds sends hears table acted old → last_frame (sent_frames table acted) ≡ Some frame → air ≡ changed_frame changes (air_of frame)
    → MakingHolds sends hears table after (record old { ear = ear; clock = Some moment })
unreceived-made sends hears table acted after moment changes old ear frame air is free early none s h found put =
    acted-step sends hears table acted after _ _ _ is (ap (λ r. option_or r (receiver_refusal (receptions table acted) moment)) free ∙ early)
    (heard-made sends hears table acted moment changes old ear frame air None old.counts.heard old.counts.corrected h found (length-woven_frame (frame_payload frame)) put none s
    (ap (λ (c : Counts). c.heard) h.counts) (omega arith))

-- a frame before the last reception
pub early-made : {G E : Type 0} (sends : Sends G) (hears : Hears E) (table : LifeTable) (acted after : List Line) (moment : ℕ) (changes : List (ℕ × ℕ)) (kept : ℕ) (old : Making G E) (ear : E)
    → after ≡ acted_unless (option_or (frame_refusal table.late moment (last_frame (sent_frames table acted))) (receiver_refusal (receptions table acted) moment))
    (hear moment (last_number (sent_frames table acted)) (wrong_in changes (last_frame (sent_frames table acted)))) acted
    → frame_refusal table.late moment (last_frame (sent_frames table acted)) ≡ None → receiver_refusal (receptions table acted) moment ≡ Some (Clock kept)
    → hears table (receptions table acted) ear → MakingHolds sends hears table acted old
    → MakingHolds sends hears table after (record old { ear = ear })
early-made sends hears table acted after moment changes kept old ear is free early s h =
    refused-step sends hears table acted after _ _ (Clock kept) (record old { ear = ear }) is
    (ap (λ r. option_or r (receiver_refusal (receptions table acted) moment)) free ∙ early)
    (record { ground = h.ground; ear = s; late = h.late; clock = h.clock; last = h.last; counts = h.counts })
