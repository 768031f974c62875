-- An item of which each segment was heard is one of whose file each segment has arrived, while it
-- lives; and the other way.
use Rattle.std.proofs.Common.{◌≡◌, ℕ, ◌<◌, Bool, true, ◌==◌, List, Option, Some, unwrap_or, refl, sym, ap, ap₂, subst, ◌∙◌}
use Rattle.std.proofs.lemmas.Bool.{and_parts, eqb-true}
use Rattle.life_table.specs.LifeTable.{LifeTable}
use Rattle.uplink_frame.specs.Station.{same_station}
use Rattle.uplink_frame.specs.Laws.{StationsAreTold}
use Rattle.list_members.specs.Membership.{IsIn}
use Rattle.list_members.specs.ListMembers.{in_map, map_has, any_in, in_any}
use Rattle.picture_core.specs.Key.{same_key}
use Rattle.picture_core.specs.Entry.{Entry}
use Rattle.picture_core.specs.Contents.{payload_entries}
use Rattle.segment_core.specs.File.{File}
use Rattle.segment_core.specs.File as files
use Rattle.segment_core.specs.Joining.{segment, IsSegment, AreApart, AreSent, HasAll}
use Rattle.segment_core.specs.Joining as joining
use Rattle.ground_core.specs.Item.{Item, Segment, segment_of, segments_of, file_of, same_item, same_segment, end_of}
use Rattle.ground_core.specs.Airing.{Frame, has_key}
use Rattle.fisb_link.specs.LinkPicture.{heard_segments, was_heard, is_whole}
use Rattle.fisb_link.specs.Hearing.{Hearing, IsAfterHearings, AreHeard}
use Rattle.fisb_link.proofs.Layers.{Layers, AreAll, Setting}
use Rattle.list_members.specs.Ranges.{all_in, in_all}
use Rattle.fisb_link.proofs.ReadSegments.{joint, own-item, number-within, segments-has}
use Rattle.fisb_link.proofs.HeardSegments.{fresh, files_heard, fresh-heard, aired-heard, heard-fresh}

-- a segment of a file that has arrived is that of a segment that was heard, of an item
pub record IsJoint (all : List Item) (among : List Segment) (j : joining.FileSegment) : Type 0 where
  pub of : Segment
  pub among_is : IsIn of among
  pub same : j ≡ joint of
  pub item_in : IsIn of.item all
  pub of_item : IsIn of (segments_of of.item)

pub heard-joint : (table : LifeTable) (all : List Item) (sent : List Frame) (heard : List Hearing)
    (j : joining.FileSegment) → Setting table all sent
    → AreHeard table.late sent heard → IsIn j (files_heard table sent heard)
    → IsJoint all (fresh table sent heard) j
heard-joint table all sent heard j setting are h =
    let found = in_map joint j (fresh table sent heard) h in
    let aired = (aired-heard table all sent heard found.0 setting are
    (fresh-heard table sent heard found.0 found.1)).1 in
    record {
      of = found.0;
      among_is = found.1;
      same = found.2;
      item_in = aired.item_in;
      of_item = aired.of_item;
    }

-- what is heard are segments of files that are told apart
heard-numbered : (table : LifeTable) (all : List Item) (sent : List Frame) (heard : List Hearing)
    (j : joining.FileSegment) → Setting table all sent
    → AreHeard table.late sent heard → IsIn j (files_heard table sent heard) → IsSegment j
heard-numbered table all sent heard j setting are h =
    let found = heard-joint table all sent heard j setting are h in
    subst IsSegment (sym found.same)
    (number-within setting.layers (found.of).item found.of found.of_item)

one-file : (table : LifeTable) (all : List Item) (i j : Item) → AreAll table all → IsIn i all
    → IsIn j all
    → files.is_segmented i.weather.form i.weather.payload ≡ true
    → files.is_segmented j.weather.form j.weather.payload ≡ true
    → i.station ≡ j.station → (file_of i).product ≡ (file_of j).product
    → (file_of i).version ≡ (file_of j).version
    → (file_of i).number ≡ (file_of j).number → file_of i ≡ file_of j
one-file table all i j are h k cut cut' station product version number =
    let own = are.numbered i h cut in
    let other = are.numbered j k cut' in
    let value : Option ℕ → ℕ = λ o. unwrap_or o 0 in
    let same : own.0 ≡ other.0 = sym (ap value own.1) ∙ number ∙ ap value other.1 in
    ap file_of (are.files i j h k station cut cut' product version
    (own.1 ∙ ap Some same ∙ sym other.1))

heard-apart : (table : LifeTable) (all : List Item) (sent : List Frame) (heard : List Hearing)
    → Setting table all sent → AreHeard table.late sent heard
    → AreApart (files_heard table sent heard)
heard-apart table all sent heard setting are a b h k cut cut' station product version number =
    let one = heard-joint table all sent heard a setting are h in
    let other = heard-joint table all sent heard b setting are k in
    let is_cut : joining.FileSegment → Bool = λ s. files.is_segmented s.file.form s.file.payload in
    let i = (one.of).item in
    let j = (other.of).item in
    ap (λ (s : joining.FileSegment). s.file) one.same
    ∙ one-file table all i j setting.items_are one.item_in other.item_in
    (sym (ap is_cut one.same) ∙ cut) (sym (ap is_cut other.same) ∙ cut')
    (sym (ap (λ (s : joining.FileSegment). s.station) one.same) ∙ station
    ∙ ap (λ (s : joining.FileSegment). s.station) other.same)
    (sym (ap (λ (s : joining.FileSegment). s.file.product) one.same) ∙ product
    ∙ ap (λ (s : joining.FileSegment). s.file.product) other.same)
    (sym (ap (λ (s : joining.FileSegment). s.file.version) one.same) ∙ version
    ∙ ap (λ (s : joining.FileSegment). s.file.version) other.same)
    (sym (ap (λ (s : joining.FileSegment). s.file.number) one.same) ∙ number
    ∙ ap (λ (s : joining.FileSegment). s.file.number) other.same)
    ∙ sym (ap (λ (s : joining.FileSegment). s.file) other.same)

pub heard-sent : (table : LifeTable) (all : List Item) (sent : List Frame) (heard : List Hearing)
    → Setting table all sent → AreHeard table.late sent heard
    → AreSent (files_heard table sent heard)
heard-sent table all sent heard setting are = record {
  numbered = λ j h. heard-numbered table all sent heard j setting are h;
  apart = heard-apart table all sent heard setting are;
}

-- two items of one station whose files are one, and which have an entry, are one
pub item-has_key : Layers → (item : Item) (e : Entry) → IsIn e item.weather.entries
    → has_key e.key item ≡ true
item-has_key layers item e h =
    in_any (λ (entry : Entry). same_key e.key entry.key) e item.weather.entries h
    (((layers.pictures).same_keys e.key e.key).1 refl)

pub one-item : (table : LifeTable) (all : List Item) (sent : List Frame) (i j : Item) (e : Entry)
    → Setting table all sent → IsIn i all → IsIn j all
    → i.station ≡ j.station → file_of i ≡ file_of j → IsIn e i.weather.entries → i ≡ j
one-item table all sent i j e setting h k station file there =
    let are = setting.items_are in
    let says : File → List Entry = λ f. payload_entries table f.product f.version f.payload in
    let entries : i.weather.entries ≡ j.weather.entries = sym (are.sound i h).says ∙ ap says file
    ∙ (are.sound j k).says in
    are.keys i j e h k station there
    (item-has_key setting.layers j e (subst (IsIn e) entries there))
    (ap (λ (f : File). f.version) file)

-- a segment is the same as no other one that was heard
same-one : StationsAreTold → (table : LifeTable) (all : List Item) (s t : Segment)
    → AreAll table all → IsIn s.item all → IsIn t.item all
    → same_segment s t ≡ true → s ≡ t
same-one told table all s t are h k same =
    let parts = and_parts (same_item s.item t.item) (s.number == t.number) same in
    let of_item =
    and_parts (same_station s.item.station t.item.station)
    (s.item.serial == t.item.serial) parts.0 in
    let item = are.serials s.item t.item h k ((told s.item.station t.item.station).0 of_item.0)
    (eqb-true _ _ of_item.1) in
    ap₂ segment_of item (eqb-true _ _ parts.1)

-- where each segment of its file has arrived, the item is whole
pub all-whole : (table : LifeTable) (all : List Item) (sent : List Frame) (heard : List Hearing)
    (item : Item) (e : Entry) → Setting table all sent
    → AreHeard table.late sent heard → IsIn item all → IsIn e item.weather.entries
    → HasAll (files_heard table sent heard) item.station (file_of item)
    → is_whole sent heard item ≡ true
all-whole table all sent heard item e setting are item_in there has =
    in_all (was_heard sent heard) (segments_of item) (λ s h.
    let within = number-within setting.layers item s h in
    let found = heard-joint table all sent heard
    (segment item.station (file_of item) s.number) setting are
    (has s.number within.0 within.1) in
    let t = found.of in
    let one = one-item table all sent item t.item e setting item_in found.item_in
    (ap (λ (j : joining.FileSegment). j.station) found.same)
    (ap (λ (j : joining.FileSegment). j.file) found.same) there in
    let same : s ≡ t =
    ap₂ segment_of (own-item setting.layers item s h ∙ one)
    (ap (λ (j : joining.FileSegment). j.number) found.same) in
    let was = fresh-heard table sent heard t found.among_is in
    in_any (same_segment s) t (heard_segments sent heard) was
    (subst (λ (x : Segment). same_segment s x ≡ true) same
    ((setting.layers).same_segments s)))

-- and where the item is whole and lives on, each segment of its file has arrived
pub whole-all : (table : LifeTable) (all : List Item) (sent : List Frame) (heard : List Hearing)
    (moment : ℕ) (item : Item) → Setting table all sent
    → AreHeard table.late sent heard → IsAfterHearings moment heard → IsIn item all
    → moment < end_of item.weather → is_whole sent heard item ≡ true
    → HasAll (files_heard table sent heard) item.station (file_of item)
whole-all table all sent heard moment item setting are after item_in lives whole number least most =
    let s = segment_of item number in
    let was = all_in (was_heard sent heard) s (segments_of item) whole
    (segments-has setting.layers item number least most) in
    let found = any_in (same_segment s) (heard_segments sent heard) was in
    let aired = (aired-heard table all sent heard found.0 setting are found.1).1 in
    let same = same-one
    (setting.layers).stations table all s found.0 setting.items_are item_in aired.item_in
    found.2 in
    map_has joint s (fresh table sent heard)
    (heard-fresh table all sent heard moment s setting.items_are are after item_in lives
    (subst (λ (x : Segment). IsIn x (heard_segments sent heard)) (sym same) found.1))
