-- The segments of an item are those of its file, and each takes two bytes more than its body.
use Rattle.std.proofs.Common.{◌≡◌, ℕ, ◌+◌, length, is_some, sym, ap, subst, ◌∙◌, arith}
use Rattle.apdu_core.specs.Apdu.{Apdu, apdu_bytes, header_length}
use Rattle.list_members.specs.Tests.{some_by_test}
use Rattle.list_members.specs.Membership.{IsIn}
use Rattle.list_members.specs.ListMembers.{in_map, map_has}
use Rattle.list_members.specs.Ranges.{in_range, range_has}
use Rattle.segment_core.specs.File.{File, is_segmented, numbers_of, parts_of, part_of, segmentation_of, apdu_of_segment}
use Rattle.ground_core.specs.Item.{Item, Segment, body_of, file_of, room_of, segment_of, segments_of}
use Rattle.ground_core.specs.Sent.{IsSegmentOf, SegmentsAreOfItems}

pub is_segment_of : (item : Item) (s : Segment) → IsIn s (segments_of item) → IsSegmentOf item s
is_segment_of item s h =
    let found = in_map (segment_of item) s (numbers_of (file_of item)) h in
    let within = in_range found.0 1 (length (parts_of (file_of item))) found.1 in
    let same : s.number ≡ found.0 = ap (λ (x : Segment). x.number) found.2 in
    record {
      item_is = ap (λ (x : Segment). x.item) found.2;
      least = omega arith;
      most = omega arith;
    }

stands_in_item : (item : Item) (s : Segment) → IsSegmentOf item s → IsIn s (segments_of item)
stands_in_item item s is =
    let has = map_has (segment_of item) s.number (numbers_of (file_of item))
    (range_has s.number 1 (length (parts_of (file_of item))) is.least (let most = is.most in omega arith)) in
    subst (λ (i : Item). IsIn (segment_of i s.number) (segments_of item)) (sym is.item_is) has

pub segments-of_items : SegmentsAreOfItems
segments-of_items item s = (is_segment_of item s, stands_in_item item s)

-- only the segments of a payload that is cut say which one they are
pub is_some_segmentation : (f : File) (number : ℕ) → is_some (segmentation_of f number) ≡ is_segmented f.form f.payload
is_some_segmentation f number =
    some_by_test (is_segmented f.form f.payload) (record { file = f.number; count = length (parts_of f); number = number })

abbrev pub SizesOfApdus : Type 0
SizesOfApdus = (a : Apdu) → length (apdu_bytes a) ≡ header_length a.form (is_some a.segmentation) + length a.payload

pub body_size : SizesOfApdus → (s : Segment) → length (body_of s) + 2 ≡ room_of s
body_size law s =
    let file = file_of s.item in
    let size = law (apdu_of_segment file s.number) in
    ap (λ n. n + 2) (size ∙ ap (λ b. header_length file.form b + length (part_of file s.number)) (is_some_segmentation file s.number))
