-- What arrives of hearings are the segments that were heard before the longest life of their
-- product had passed. From here on no byte and no field of time is spoken of.
use Rattle.std.proofs.Common.{◌≡◌, ℕ, ◌+◌, ◌<◌, ◌≤◌, Bool, true, cond, List, [], ◌∷◌, ◌++◌, map, filter, filter_map, Option, Some, None, unwrap_or, slice_get, refl, sym, ap, ap₂, subst, ◌∙◌, inl, inr, arith}
use Rattle.std.specs.Result.{result_ok}
use Rattle.std.specs.List.{cons_option}
use Rattle.std.proofs.lemmas.Bool.{cases_Bool, cond-true, cond-false, lt-ltb}
use Rattle.std.proofs.lemmas.List.{map-append}
use Rattle.fisb_time.specs.Moment.{IsMoment}
use Rattle.life_table.specs.LifeTable.{LifeTable, longest}
use Rattle.uplink_frame.specs.declared.header.UplinkHeader.{UplinkHeader}
use Rattle.uplink_frame.specs.Station.{station_of}
use Rattle.uplink_frame.specs.UplinkFrame.{InformationFrame, fisb_frame}
use Rattle.list_members.specs.Membership.{IsIn}
use Rattle.list_members.specs.Members.{IsIn-before, IsIn-after, IsIn-either, IsIn-filter, IsIn-from_filter}
use Rattle.list_members.specs.ListMembers.{got_in}
use Rattle.segment_core.specs.Arrival.{Arrival}
use Rattle.segment_core.specs.Joining.{arrival_of}
use Rattle.segment_core.specs.Joining as joining
use Rattle.ground_core.specs.Item.{Item, Segment, body_of, end_of}
use Rattle.ground_core.specs.Airing.{Frame, frame_payload}
use Rattle.ground_core.specs.Sent.{IsAired, IsFrame}
use Rattle.receiver_core.specs.Reception.{arrival_in, arrivals_in, arrivals}
use Rattle.fisb_link.specs.LinkPicture.{segments_in, heard_segments}
use Rattle.fisb_link.specs.Hearing.{Hearing, IsInTime, IsAfterHearings, AreHeard, payload_sent, reception_of, receptions_of}
use Rattle.fisb_link.proofs.Layers.{AreAll, Setting}
use Rattle.fisb_link.proofs.ReadSegments.{joint, is_fresh, arrival-read}
use Rattle.fisb_link.proofs.StillHeard.{in_time}

-- the segments of a hearing that count, and those of all hearings, the oldest first
abbrev pub fresh_now : LifeTable → List Frame → Hearing → List Segment
fresh_now table sent h = filter (is_fresh table h.moment) (segments_in (slice_get sent h.frame))

abbrev pub fresh : LifeTable → List Frame → List Hearing → List Segment
fresh table sent [] = []
fresh table sent (h ∷ past) = fresh table sent past ++ fresh_now table sent h

-- as segments of files
abbrev pub files_now : LifeTable → List Frame → Hearing → List joining.FileSegment
files_now table sent h = map joint (fresh_now table sent h)

abbrev pub files_heard : LifeTable → List Frame → List Hearing → List joining.FileSegment
files_heard table sent heard = map joint (fresh table sent heard)

-- what is found of each member that passes a test
found-filter : {A B C D : Type 0} (g : B → Option D) (f : A → B) (p : A → Bool) (j : A → C)
    (k : C → D) (xs : List A)
    → ((x : A) → IsIn x xs → g (f x) ≡ cond (p x) (Some (k (j x))) None)
    → filter_map g (map f xs) ≡ map k (map j (filter p xs))
found-filter {D = D} g f p j k [] each = refl
found-filter {A = A} {D = D} g f p j k (x ∷ xs) each =
    let later = found-filter g f p j k xs (λ y h. each y (inr h)) in
    let rest = filter_map g (map f xs) in
    elim (cases_Bool (p x)) [
      | inl t ↦
          let here : g (f x) ≡ Some (k (j x)) = each x (inl refl)
          ∙ cond-true (p x) (Some (k (j x))) None t in
          ap (λ (o : Option D). cons_option o rest) here
          ∙ ap (λ (ys : List D). k (j x) ∷ ys) later
          ∙ ap (λ (ys : List A). map k (map j ys))
          (sym (cond-true (p x) (x ∷ filter p xs) (filter p xs) t))
      | inr t ↦
          let here : g (f x) ≡ None = each x (inl refl)
          ∙ cond-false (p x) (Some (k (j x))) None t in
          ap (λ (o : Option D). cons_option o rest) here
          ∙ later
          ∙ ap (λ (ys : List A). map k (map j ys))
          (sym (cond-false (p x) (x ∷ filter p xs) (filter p xs) t))
    ]

-- what arrives of a payload that reads back
abbrev ArriveFresh : LifeTable → ℕ → Option Frame → Type 0
ArriveFresh table moment found =
    arrivals_in table (record { moment = moment; payload = payload_sent found })
    ≡ map arrival_of (map joint (filter (is_fresh table moment) (segments_in found)))

frame-arrives : (table : LifeTable) (all : List Item) (sent : List Frame) (moment : ℕ)
    (frame : Frame) → Setting table all sent → IsFrame all frame
    → IsMoment moment → frame.moment ≤ moment → moment ≤ frame.moment + table.late
    → ArriveFresh table moment (Some frame)
frame-arrives table all sent moment frame setting is range after soon =
    let payload = frame_payload frame in
    let read : InformationFrame → Option Arrival =
    λ f. result_ok (arrival_in table frame.station moment f) in
    ap₂ (λ (header : UplinkHeader) (frames : List InformationFrame).
    filter_map (λ (f : InformationFrame). result_ok
    (arrival_in table (station_of header) moment f)) frames)
    is.header_back is.frames_back
    ∙ found-filter read (λ (s : Segment). fisb_frame (body_of s))
    (is_fresh table moment) joint arrival_of frame.segments
    (λ s h. arrival-read table all sent frame s moment setting (is.aired s h) range after soon)

arrivals-now : (table : LifeTable) (all : List Item) (sent : List Frame) (h : Hearing)
    → Setting table all sent
    → IsInTime table.late (slice_get sent h.frame) h.moment → IsMoment h.moment
    → arrivals_in table (reception_of sent h) ≡ map arrival_of (files_now table sent h)
arrivals-now table all sent h setting timely range =
    let got = in_time table.late h.moment (slice_get sent h.frame) timely in
    let is = setting.frames_are got.0 (got_in got.0 sent h.frame got.1) in
    subst (ArriveFresh table h.moment) (sym got.1)
    (frame-arrives table all sent h.moment got.0 setting is range got.2 got.3)

joined-append : (one other : List Segment)
    → map arrival_of (map joint (one ++ other))
    ≡ map arrival_of (map joint one) ++ map arrival_of (map joint other)
joined-append one other = ap (map arrival_of) (map-append joint one other)
    ∙ map-append arrival_of (map joint one) (map joint other)

pub arrivals-are : (table : LifeTable) (all : List Item) (sent : List Frame) (heard : List Hearing)
    → Setting table all sent
    → AreHeard table.late sent heard
    → arrivals table (receptions_of sent heard) ≡ map arrival_of (files_heard table sent heard)
arrivals-are table all sent [] setting are = refl
arrivals-are table all sent (h ∷ past) setting are =
    ap₂ (λ (before now : List Arrival). before ++ now)
    (arrivals-are table all sent past setting are.3)
    (arrivals-now table all sent h setting are.0 are.1)
    ∙ sym (joined-append (fresh table sent past) (fresh_now table sent h))

pub arrivals-grow : (table : LifeTable) (all : List Item) (sent : List Frame) (h : Hearing)
    (past : List Hearing) → Setting table all sent
    → AreHeard table.late sent (h ∷ past)
    → arrivals table (receptions_of sent (h ∷ past))
    ≡ map arrival_of (files_heard table sent past) ++ map arrival_of (files_now table sent h)
arrivals-grow table all sent h past setting are =
    ap₂ (λ (before now : List Arrival). before ++ now)
    (arrivals-are table all sent past setting are.3)
    (arrivals-now table all sent h setting are.0 are.1)

-- a segment that counts was heard
pub fresh-heard : (table : LifeTable) (sent : List Frame) (heard : List Hearing) (s : Segment)
    → IsIn s (fresh table sent heard) → IsIn s (heard_segments sent heard)
fresh-heard table sent [] s h = absurd h
fresh-heard table sent (x ∷ past) s h =
    let now = segments_in (slice_get sent x.frame) in
    elim (IsIn-either s (fresh table sent past) (fresh_now table sent x) h) [
      | inl old ↦ IsIn-after s now (heard_segments sent past) (fresh-heard table sent past s old)
      | inr new ↦ IsIn-before s now (heard_segments sent past)
          (IsIn-from_filter (is_fresh table x.moment) s now new).0
    ]

-- what is heard was aired by the frame that was heard
pub aired-now : (table : LifeTable) (all : List Item) (sent : List Frame) (h : Hearing)
    (s : Segment) → Setting table all sent
    → IsInTime table.late (slice_get sent h.frame) h.moment
    → IsIn s (segments_in (slice_get sent h.frame))
    → (frame : Frame) × (slice_get sent h.frame ≡ Some frame) × IsAired all frame s
aired-now table all sent h s setting timely there =
    let got = in_time table.late h.moment (slice_get sent h.frame) timely in
    let is = setting.frames_are got.0 (got_in got.0 sent h.frame got.1) in
    (got.0, got.1, is.aired s (subst (λ (o : Option Frame). IsIn s (segments_in o)) got.1 there))

pub aired-heard : (table : LifeTable) (all : List Item) (sent : List Frame) (heard : List Hearing)
    (s : Segment) → Setting table all sent
    → AreHeard table.late sent heard → IsIn s (heard_segments sent heard)
    → (frame : Frame) × IsAired all frame s
aired-heard table all sent [] s setting are h = absurd h
aired-heard table all sent (x ∷ past) s setting are h =
    elim (IsIn-either s (segments_in (slice_get sent x.frame)) (heard_segments sent past) h) [
      | inl now ↦ let found = aired-now table all sent x s setting are.0 now in (found.0, found.2)
      | inr before ↦ aired-heard table all sent past s setting are.3 before
    ]

-- a segment of an item that lives at a moment after a hearing counts there
fresh-lives : (table : LifeTable) (all : List Item) (received moment : ℕ) (s : Segment)
    → AreAll table all → IsIn s.item all → received ≤ moment
    → moment < end_of s.item.weather → is_fresh table received s ≡ true
fresh-lives table all received moment s are item_in before lives =
    let w = s.item.weather in
    let listed = (are.sound s.item item_in).listed in
    let most = listed.not_longer in
    let life : unwrap_or (longest table w.product) 0 ≡ listed.longest_life =
    ap (λ (o : Option ℕ). unwrap_or o 0) listed.has_row in
    lt-ltb received (w.version + unwrap_or (longest table w.product) 0) (omega arith)

pub heard-fresh : (table : LifeTable) (all : List Item) (sent : List Frame) (heard : List Hearing)
    (moment : ℕ) (s : Segment) → AreAll table all
    → AreHeard table.late sent heard → IsAfterHearings moment heard → IsIn s.item all
    → moment < end_of s.item.weather
    → IsIn s (heard_segments sent heard) → IsIn s (fresh table sent heard)
heard-fresh table all sent [] moment s are heard after item_in lives h = absurd h
heard-fresh table all sent (x ∷ past) moment s are heard after item_in lives h =
    let now = segments_in (slice_get sent x.frame) in
    elim (IsIn-either s now (heard_segments sent past) h) [
      | inl new ↦ IsIn-after s (fresh table sent past) (fresh_now table sent x)
          (IsIn-filter (is_fresh table x.moment) s now new
          (fresh-lives table all x.moment moment s are item_in after lives))
      | inr old ↦ IsIn-before s (fresh table sent past) (fresh_now table sent x)
          (heard-fresh table all sent past x.moment s are heard.3 heard.2 item_in (omega arith) old)
    ]
