-- What one hearing adds: to the entries by the bytes those of files that become whole, to those of
-- the link those of items.
use Rattle.std.proofs.Common.{◌≡◌, ℕ, zero, suc, ◌<◌, ◌≤◌, Bool, true, false, List, [], ◌∷◌, ◌++◌, length, map, filter, flat_map, Some, slice_get, sym, ap, subst, ◌∙◌, inl, inr, arith}
use Rattle.std.specs.List.{list_all, range_with_len}
use Rattle.std.proofs.lemmas.Bool.{cases_Bool}
use Rattle.std.proofs.lemmas.List.{map-append}
use Rattle.std.proofs.lemmas.List.Concat.{flat_map-append}
use Rattle.life_table.specs.LifeTable.{LifeTable}
use Rattle.uplink_frame.specs.declared.station.StationId.{StationId}
use Rattle.list_members.specs.Membership.{IsIn}
use Rattle.list_members.specs.Members.{IsIn-either, IsIn-from_filter}
use Rattle.list_members.specs.ListMembers.{in_map, in_flat_map, flat_map_has}
use Rattle.picture_core.specs.Entry.{Entry}
use Rattle.segment_core.specs.File.{File, is_segmented, parts_of}
use Rattle.segment_core.specs.OnePart.{one-part}
use Rattle.segment_core.specs.Arrival.{Arrival, Whole, whole_payloads, completed_after}
use Rattle.segment_core.specs.Joining.{segment, arrival_of, whole_of, AreSent, HasAll}
use Rattle.segment_core.specs.Joining as joining
use Rattle.ground_core.specs.Item.{Item, Segment, segment_of, file_of, end_of}
use Rattle.ground_core.specs.Airing.{Frame}
use Rattle.ground_core.specs.Sent.{IsAired}
use Rattle.receiver_core.specs.Reception.{whole_entries, contents}
use Rattle.fisb_link.specs.LinkPicture.{segments_in, was_heard, is_whole, becomes_whole}
use Rattle.fisb_link.specs.Hearing.{Hearing, IsAfterHearings, AreHeard, receptions_of}
use Rattle.fisb_link.proofs.Layers.{FileLayers, AreAll, Setting}
use Rattle.fisb_link.proofs.ReadSegments.{joint, is_fresh, number-within}
use Rattle.fisb_link.proofs.HeardSegments.{fresh, fresh_now, files_now, files_heard, arrivals-are, arrivals-grow, aired-now}
use Rattle.fisb_link.proofs.WholeItems.{heard-sent, all-whole, whole-all}

-- the entries of the files that a hearing makes whole, and those of the items that become whole
abbrev pub new_whole : LifeTable → List Frame → Hearing → List Hearing → List Whole
new_whole table sent h past =
    completed_after (map arrival_of (files_heard table sent past))
    (map arrival_of (files_now table sent h))

abbrev pub new_entries : LifeTable → List Frame → Hearing → List Hearing → List Entry
new_entries table sent h past = flat_map (whole_entries table) (new_whole table sent h past)

abbrev pub entries_of : Item → List Entry
entries_of item = item.weather.entries

abbrev pub new_link : List Item → List Frame → Hearing → List Hearing → List Entry
new_link all sent h past = flat_map entries_of (filter (becomes_whole sent h past) all)

abbrev entries_by : LifeTable → List Arrival → List Entry
entries_by table arrived = flat_map (whole_entries table) (whole_payloads arrived)

pub contents-grow : (table : LifeTable) (all : List Item) (sent : List Frame) (h : Hearing)
    (past : List Hearing) → Setting table all sent
    → AreHeard table.late sent (h ∷ past)
    → contents table (receptions_of sent (h ∷ past))
    ≡ contents table (receptions_of sent past) ++ new_entries table sent h past
contents-grow table all sent h past setting are =
    let before = map arrival_of (files_heard table sent past) in
    let now = map arrival_of (files_now table sent h) in
    ap (entries_by table) (arrivals-grow table all sent h past setting are)
    ∙ ap (flat_map (whole_entries table)) (((setting.layers).files).grows before now)
    ∙ flat_map-append (whole_entries table) (whole_payloads before) (completed_after before now)
    ∙ ap (λ (es : List Entry). es ++ new_entries table sent h past)
    (sym (ap (entries_by table) (arrivals-are table all sent past setting are.3)))

-- a file is whole with what came now, where each segment has arrived and not each had before,
-- whether it is cut or not
file-completes : FileLayers → (before now : List joining.FileSegment) (station : StationId)
    (file : File) → AreSent (before ++ now)
    → 1 ≤ length (parts_of file) → HasAll (before ++ now) station file
    → (HasAll before station file → ⊥)
    → IsIn (whole_of file) (completed_after (map arrival_of before) (map arrival_of now))
file-completes layers before now station file sent some has not_before =
    elim (cases_Bool (is_segmented file.form file.payload)) [
      | inl t ↦ layers.cut before now station file sent t has not_before
      | inr f ↦ elim (IsIn-either (segment station file 1) before now (has 1 (omega arith) some)) [
        | inl old ↦
            let count = one-part file.form file.payload f in
            absurd (not_before (λ number least most.
            let same : 1 ≡ number = omega arith in
            subst (λ n. IsIn (segment station file n) before) same old))
        | inr new ↦ layers.uncut before now station file sent f new
      ]
    ]

-- what was heard so far, as files before and now
pub files-grow : (table : LifeTable) (sent : List Frame) (h : Hearing) (past : List Hearing)
    → files_heard table sent (h ∷ past) ≡ files_heard table sent past ++ files_now table sent h
files-grow table sent h past = map-append joint (fresh table sent past) (fresh_now table sent h)

sent-grown : (table : LifeTable) (all : List Item) (sent : List Frame) (h : Hearing)
    (past : List Hearing) → Setting table all sent
    → AreHeard table.late sent (h ∷ past)
    → AreSent (files_heard table sent past ++ files_now table sent h)
sent-grown table all sent h past setting are =
    subst AreSent (files-grow table sent h past) (heard-sent table all sent (h ∷ past) setting are)

-- the whole payload of an item's file says its entries
says-entries : (table : LifeTable) (all : List Item) (item : Item) → AreAll table all
    → IsIn item all
    → whole_entries table (whole_of (file_of item)) ≡ entries_of item
says-entries table all item are h = (are.sound item h).says

-- an entry by the bytes that came now is of an item that is whole with them, and of the station
-- that was heard
pub record IsBrought (all : List Item) (sent : List Frame) (h : Hearing) (past : List Hearing)
    (e : Entry) : Type 0 where
  pub item : Item
  pub item_in : IsIn item all
  pub there : IsIn e item.weather.entries
  pub whole : is_whole sent (h ∷ past) item ≡ true
  pub some : 1 ≤ length (parts_of (file_of item))
  pub frame : Frame
  pub frame_is : slice_get sent h.frame ≡ Some frame
  pub of_station : item.station ≡ frame.station

pub new_entries-brought : (table : LifeTable) (all : List Item) (sent : List Frame) (h : Hearing)
    (past : List Hearing) (e : Entry) → Setting table all sent
    → AreHeard table.late sent (h ∷ past) → IsIn e (new_entries table sent h past)
    → IsBrought all sent h past e
new_entries-brought table all sent h past e setting are there =
    let before = files_heard table sent past in
    let now = files_now table sent h in
    let by = in_flat_map (whole_entries table) e (new_whole table sent h past) there in
    let of_file = ((setting.layers).files).only before now by.0
    (sent-grown table all sent h past setting are) by.1 in
    let came = in_map joint (segment of_file.station of_file.file of_file.number)
    (fresh_now table sent h) of_file.came_now in
    let s : Segment = came.0 in
    let heard = (IsIn-from_filter (is_fresh table h.moment) s
    (segments_in (slice_get sent h.frame)) came.1).0 in
    let found = aired-now table all sent h s setting are.0 heard in
    let aired : IsAired all found.0 s = found.2 in
    let item = s.item in
    let station : of_file.station ≡ item.station = ap (λ (j : joining.FileSegment). j.station) came.2 in
    let file : of_file.file ≡ file_of item = ap (λ (j : joining.FileSegment). j.file) came.2 in
    let whole : by.0 ≡ whole_of (file_of item) = of_file.whole_is ∙ ap whole_of file in
    let says = ap (whole_entries table) whole
    ∙ says-entries table all item setting.items_are aired.item_in in
    let entry : IsIn e item.weather.entries = subst (IsIn e) says by.2 in
    let has_now : HasAll (before ++ now) item.station (file_of item) =
    subst (λ (f : File). HasAll (before ++ now) item.station f) file
    (subst (λ (of : StationId). HasAll (before ++ now) of of_file.file) station of_file.has_all) in
    let has : HasAll (files_heard table sent (h ∷ past)) item.station (file_of item) =
    subst (λ (js : List joining.FileSegment). HasAll js item.station (file_of item))
    (sym (files-grow table sent h past)) has_now in
    let within = number-within setting.layers item s aired.of_item in
    record {
      item = item;
      item_in = aired.item_in;
      there = entry;
      whole = all-whole table all sent (h ∷ past) item e setting are aired.item_in entry has;
      some = omega arith;
      frame = found.0;
      frame_is = found.1;
      of_station = aired.of_station;
    }

-- what an item that is whole says has been brought, while it lives
pub whole-brought : (table : LifeTable) (all : List Item) (sent : List Frame) (heard : List Hearing)
    (moment : ℕ) (item : Item) (e : Entry)
    → Setting table all sent → AreHeard table.late sent heard → IsAfterHearings moment heard
    → IsIn item all → IsIn e item.weather.entries
    → moment < end_of item.weather → 1 ≤ length (parts_of (file_of item))
    → is_whole sent heard item ≡ true
    → IsIn e (contents table (receptions_of sent heard))
whole-brought table all sent heard moment item e setting are after item_in there lives some whole =
    let files = files_heard table sent heard in
    let has = whole-all table all sent heard moment item setting are after item_in lives whole in
    let completes =
    file-completes (setting.layers).files [] files item.station (file_of item)
    (heard-sent table all sent heard setting are) some has
    (λ none. none 1 (omega arith) some) in
    let entry = subst (IsIn e)
    (sym (says-entries table all item setting.items_are item_in)) there in
    subst (λ (arrived : List Arrival). IsIn e (entries_by table arrived))
    (sym (arrivals-are table all sent heard setting are))
    (flat_map_has (whole_entries table) (whole_of (file_of item)) e
    (whole_payloads (map arrival_of files)) completes entry)

-- what is not whole has a part
some-missing : (p : Segment → Bool) (f : ℕ → Segment) (count : ℕ)
    → list_all p (map f (range_with_len 1 count)) ≡ false → 1 ≤ count
some-missing p f zero missing = absurd (cc)
some-missing p f (suc count) missing = omega arith

-- and what an item says that becomes whole now is brought now
pub becoming-brought : (table : LifeTable) (all : List Item) (sent : List Frame) (h : Hearing)
    (past : List Hearing) (moment : ℕ) (item : Item) (e : Entry)
    → Setting table all sent → AreHeard table.late sent (h ∷ past) → h.moment ≤ moment
    → IsIn item all → IsIn e item.weather.entries
    → moment < end_of item.weather → is_whole sent (h ∷ past) item ≡ true
    → is_whole sent past item ≡ false
    → IsIn e (new_entries table sent h past)
becoming-brought table all sent h past moment item e setting are after item_in there lives whole new =
    let before = files_heard table sent past in
    let now = files_now table sent h in
    let has =
    whole-all table all sent (h ∷ past) moment item setting are after item_in lives whole in
    let has_now : HasAll (before ++ now) item.station (file_of item) =
    subst (λ (js : List joining.FileSegment). HasAll js item.station (file_of item))
    (files-grow table sent h past) has in
    let completes =
    file-completes (setting.layers).files before now item.station (file_of item)
    (sent-grown table all sent h past setting are)
    (some-missing (was_heard sent past) (segment_of item)
    (length (parts_of (file_of item))) new) has_now
    (λ had. absurd
    (cc (sym new
    ∙ all-whole table all sent past item e setting are.3 item_in there had))) in
    let entry = subst (IsIn e)
    (sym (says-entries table all item setting.items_are item_in)) there in
    flat_map_has (whole_entries table) (whole_of (file_of item)) e
    (new_whole table sent h past) completes entry
