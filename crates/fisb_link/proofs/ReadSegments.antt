-- The body of a segment that is heard in time reads back as the arrival of that segment, until the
-- longest life of its product has passed.
use Rattle.std.proofs.Common.{◌≡◌, ℕ, ◌+◌, ◌<◌, ◌≤◌, Bool, true, false, nat_lt, cond, List, length, Option, Some, None, unwrap_or, Result, Ok, Err, refl, sym, ap, subst, ◌∙◌, inl, inr, arith}
use Rattle.std.specs.Result.{result_ok}
use Rattle.std.proofs.lemmas.Bool.{cases_Bool, cond-true, cond-false, or_cases, eqb-true, le-ltb}
use Rattle.fisb_time.specs.Moment.{IsMoment}
use Rattle.fisb_time.specs.TimeFields.{shown_fields}
use Rattle.fisb_time.specs.Naming.{named_moment, window}
use Rattle.fisb_time.specs.declared.form.TimeForm.{TimeForm}
use Rattle.fisb_time.specs.declared.form.TimeForm.TheVariants.{Minute, Second, DayMinute, DaySecond}
use Rattle.life_table.specs.Products.{regional_radar, conus_radar, text_product, is_read_product}
use Rattle.life_table.specs.LifeTable.{LifeTable, longest}
use Rattle.life_table.specs.Rules.{IsTable, IsWithinForm}
use Rattle.apdu_core.specs.declared.apdu.Seg.{Seg}
use Rattle.apdu_core.specs.Apdu.{Apdu, apdu_of}
use Rattle.apdu_core.specs.Spelling.{FitsSegmentation}
use Rattle.uplink_frame.specs.declared.station.StationId.{StationId}
use Rattle.uplink_frame.specs.UplinkFrame.{fisb_frame}
use Rattle.list_members.specs.Membership.{IsIn}
use Rattle.segment_core.specs.File.{parts, parts_of, segmentation_of, apdu_of_segment}
use Rattle.segment_core.specs.File as files
use Rattle.segment_core.specs.Arrival.{Arrival}
use Rattle.segment_core.specs.Joining.{arrival_of, segment}
use Rattle.segment_core.specs.Joining as joining
use Rattle.ground_core.specs.Item.{Item, Segment, segment_of, segments_of, file_of, body_of}
use Rattle.ground_core.specs.Airing.{Frame}
use Rattle.ground_core.specs.Sent.{IsAired}
use Rattle.receiver_core.specs.Reception.{is_large, arrival_with_version, arrival_with_row, arrival_of_apdu, arrival_in}
use Rattle.receiver_core.specs.declared.unread.UnreadReason.{UnreadReason}
use Rattle.receiver_core.specs.declared.unread.UnreadReason.TheVariants.{Stale, Product, Files}
use Rattle.fisb_link.proofs.Layers.{Layers, AreAll, Setting}

-- the segment of a file that a segment of an item is
abbrev pub joint : Segment → joining.FileSegment
joint s = segment s.item.station (file_of s.item) s.number

-- the segments of an item are those of its file
pub own-item : Layers → (item : Item) (s : Segment) → IsIn s (segments_of item) → s.item ≡ item
own-item layers item s h = ((layers.segments item s).0 h).item_is

pub number-within : Layers → (item : Item) (s : Segment) → IsIn s (segments_of item)
    → (1 ≤ s.number) × (s.number ≤ length (parts_of (file_of item)))
number-within layers item s h =
    let is = (layers.segments item s).0 h in (is.least, is.most)

pub segments-has : Layers → (item : Item) (n : ℕ) → 1 ≤ n → n ≤ length (parts_of (file_of item))
    → IsIn (segment_of item n) (segments_of item)
segments-has layers item n least most =
    (layers.segments item (segment_of item n)).1
    (record { item_is = refl; least = least; most = most })

-- the products that are read have eleven bits
product-fits : (product : ℕ) → is_read_product product ≡ true → product < 2048
product-fits product read = elim (or_cases _ _ read) [
  | inl radar ↦ elim (or_cases _ _ radar) [
    | inl e ↦ let is = eqb-true product regional_radar e in omega arith
    | inr e ↦ let is = eqb-true product conus_radar e in omega arith
  ]
  | inr e ↦ let is = eqb-true product text_product e in omega arith
]

-- the fields of a segment
abbrev seg_of_item : Item → ℕ → Seg
seg_of_item item number = record {
  file = (file_of item).number;
  count = length (parts_of (file_of item));
  number = number;
}

segmentation-fits : (table : LifeTable) (all : List Item) (item : Item) (number : ℕ)
    → AreAll table all → IsIn item all → 1 ≤ number
    → number ≤ length (parts_of (file_of item))
    → FitsSegmentation (segmentation_of (file_of item) number)
segmentation-fits table all item number are item_in least most =
    let few = (are.sound item item_in).few_segments in
    let cut = files.is_segmented item.weather.form item.weather.payload in
    let fields = seg_of_item item number in
    elim (cases_Bool cut) [
      | inl t ↦
          let numbered = are.numbered item item_in t in
          let small : numbered.0 < 1024 = numbered.2 in
          let file : (file_of item).number ≡ numbered.0 =
          ap (λ (o : Option ℕ). unwrap_or o 0) numbered.1 in
          subst FitsSegmentation (sym (cond-true cut (Some fields) None t))
          (record { file = omega arith; count = omega arith; first = least; last = most })
      | inr f ↦ subst FitsSegmentation (sym (cond-false cut (Some fields) None f)) tt
    ]

-- what is written of a segment reads back
body-back : Layers → (table : LifeTable) (all : List Item) (s : Segment) → AreAll table all
    → IsIn s.item all → IsIn s (segments_of s.item)
    → apdu_of (body_of s) ≡ Ok (apdu_of_segment (file_of s.item) s.number)
body-back layers table all s are item_in of_item =
    let sound = are.sound s.item item_in in
    let within = number-within layers s.item s of_item in
    let w = s.item.weather in
    (layers.apdus).same (apdu_of_segment (file_of s.item) s.number)
    (record {
      product = product-fits w.product sound.product;
      time = layers.shown_fits w.form w.version sound.version;
      segmentation = segmentation-fits table all s.item s.number are item_in within.0 within.1;
    })
    (((layers.files).parts (file_of s.item) s.number within.0 within.1).bytes sound.bytes)

-- and is not one of too many
not-large : (cut : Bool) (fields : Seg) → fields.count ≤ 64
    → is_large (cond cut (Some fields) None) ≡ false
not-large true fields few = le-ltb files.most_segments fields.count few
not-large false fields few = refl

-- the time round trip holds for what was live when it was sent, and is heard in time
in_window : (form : TimeForm) (late life version sent received : ℕ) → late ≤ 43200
    → IsWithinForm late form life
    → sent < version + life → received ≤ sent + late → received + 60 < version + window form
in_window Minute late life version sent received few within lives soon = omega arith
in_window Second late life version sent received few within lives soon = omega arith
in_window DayMinute late life version sent received few within lives soon = omega arith
in_window DaySecond late life version sent received few within lives soon = omega arith

named_moment-segment : Layers → (table : LifeTable) (all : List Item) (frame : Frame) (received : ℕ)
    (s : Segment) → IsTable table
    → AreAll table all → IsAired all frame s → IsMoment received → frame.moment ≤ received
    → received ≤ frame.moment + table.late
    → named_moment s.item.weather.form (shown_fields s.item.weather.form s.item.weather.version) received
    ≡ Some s.item.weather.version
named_moment-segment layers table all frame received s is_table are aired range after soon =
    let w = s.item.weather in
    let sound = are.sound s.item aired.item_in in
    let ahead = aired.not_ahead in
    layers.time w.form w.version received sound.version range sound.shown (omega arith)
    (in_window w.form table.late w.life w.version frame.moment received is_table.late sound.within
    aired.live soon)

-- it counts while it is fresh
abbrev pub is_fresh : LifeTable → ℕ → Segment → Bool
is_fresh table received s =
    nat_lt received (s.item.weather.version + unwrap_or (longest table s.item.weather.product) 0)

abbrev fresh_or_stale : Bool → Arrival → Result Arrival UnreadReason
fresh_or_stale fresh a = cond fresh (Ok a) (Err Stale)

fresh-ok : (fresh : Bool) (a : Arrival)
    → result_ok (fresh_or_stale fresh a) ≡ cond fresh (Some a) None
fresh-ok true a = refl
fresh-ok false a = refl

pub arrival-read : (table : LifeTable) (all : List Item) (sent : List Frame) (frame : Frame)
    (s : Segment) (received : ℕ) → Setting table all sent
    → IsAired all frame s → IsMoment received → frame.moment ≤ received
    → received ≤ frame.moment + table.late
    → result_ok (arrival_in table frame.station received (fisb_frame (body_of s)))
    ≡ cond (is_fresh table received s) (Some (arrival_of (joint s))) None
arrival-read table all sent frame s received setting aired range after soon =
    let layers = setting.layers in
    let are = setting.items_are in
    let w = s.item.weather in
    let sound = are.sound s.item aired.item_in in
    let listed = sound.listed in
    let life = listed.longest_life in
    let station = s.item.station in
    let apdu : Apdu = apdu_of_segment (file_of s.item) s.number in
    let cut = files.is_segmented w.form w.payload in
    let fresh : is_fresh table received s ≡ nat_lt received (w.version + life) =
    ap (λ (o : Option ℕ). nat_lt received (w.version + unwrap_or o 0)) listed.has_row in
    let read : arrival_of_apdu table station received (apdu_of (body_of s))
    ≡ fresh_or_stale (nat_lt received (w.version + life)) (arrival_of (joint s)) =
    ap (arrival_of_apdu table station received)
    (body-back layers table all s are aired.item_in aired.of_item)
    ∙ cond-true (is_read_product w.product)
    (arrival_with_row station received apdu (longest table w.product)) (Err Product)
    sound.product
    ∙ ap (arrival_with_row station received apdu) listed.has_row
    ∙ cond-false (is_large apdu.segmentation) (Err Files)
    (arrival_with_version station received apdu life (named_moment w.form apdu.time received))
    (not-large cut (seg_of_item s.item s.number) sound.few_segments)
    ∙ ap (arrival_with_version station received apdu life)
    (named_moment-segment layers table all frame received s setting.is_table are aired range after
    soon) in
    subst (λ (from : StationId). result_ok (arrival_in table from received (fisb_frame (body_of s)))
    ≡ cond (is_fresh table received s) (Some (arrival_of (joint s))) None)
    aired.of_station
    (ap result_ok read ∙ fresh-ok (nat_lt received (w.version + life)) (arrival_of (joint s))
    ∙ ap (λ (b : Bool). cond b (Some (arrival_of (joint s))) None) (sym fresh))
