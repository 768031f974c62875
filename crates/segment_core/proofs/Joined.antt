-- Pieces of one file among the segments that arrived are parts of that file, so all of them joined are its payload.
use Rattle.std.proofs.Common.{◌≡◌, ℕ, Bool, true, false, ◌&&◌, ◌==◌, List, []}
use Rattle.std.proofs.Common.{◌∷◌, length, map, Option, Some, None, refl, sym, ap, subst, ◌∙◌}
use Rattle.std.proofs.Common.{inl, inr, arith}
use Rattle.std.specs.List.{range_with_len}
use Rattle.std.proofs.lemmas.Bool.{cases_Bool, and_parts, and_from, or_cases, or_left, or_right, cond-true, cond-false}
use Rattle.std.proofs.lemmas.Bool.{eqb-true, eq-eqb}
use Rattle.uplink_frame.specs.declared.station.StationId.{StationId}
use Rattle.uplink_frame.specs.Laws.{StationsAreTold}
use Rattle.apdu_core.specs.declared.apdu.Seg.{Seg}
use Rattle.list_members.specs.Membership.{IsIn}
use Rattle.segment_core.specs.File.{File, is_segmented, parts_of, part_of, segmentation_of}
use Rattle.segment_core.specs.Arrival.{same_file, is_piece, first_piece, has_piece, bytes_of_piece, joined_payload}
use Rattle.segment_core.specs.Joining.{FileSegment, segment, arrival_of, AreApart, HasAll}
use Rattle.segment_core.proofs.Parts.{are_parts}
use Rattle.list_members.specs.Ranges.{in_range, flat_map_same}
use Rattle.segment_core.proofs.Ranges.{read_all}

-- the fields of a segment of a payload that is cut
abbrev pub seg_of_file : File → ℕ → Seg
seg_of_file f number = record { file = f.number; count = length (parts_of f); number = number }

pub segmentation-cut : (f : File) (number : ℕ) → is_segmented f.form f.payload ≡ true → segmentation_of f number
    ≡ Some (seg_of_file f number)
segmentation-cut f number cut = cond-true (is_segmented f.form f.payload) (Some (seg_of_file f number)) None cut

pub segmentation-whole : (f : File) (number : ℕ) → is_segmented f.form f.payload ≡ false → segmentation_of f number ≡ None
segmentation-whole f number whole = cond-false (is_segmented f.form f.payload) (Some (seg_of_file f number)) None whole

-- whether a segment is a piece of a file, and whether one of these is
abbrev pub is_of : StationId → File → ℕ → FileSegment → Bool
is_of station f number s = is_piece (arrival_of (segment station f 1)) (seg_of_file f 1) number (arrival_of s)
    (segmentation_of s.file s.number)

abbrev pub has : StationId → File → ℕ → List FileSegment → Bool
has station f number xs = has_piece (map arrival_of xs) (arrival_of (segment station f 1)) (seg_of_file f 1) number

-- the file is one of those of which segments are sent, and it is cut
pub record IsOfSent (all : List FileSegment) (station : StationId) (f : File) : Type 0 where
  pub told : StationsAreTold
  pub apart : AreApart all
  pub cut : is_segmented f.form f.payload ≡ true
  pub some : ℕ
  pub sent : IsIn (segment station f some) all

segment_is : (s : FileSegment) (station : StationId) (f : File) (number : ℕ) → station ≡ s.station → f ≡ s.file → s.number ≡ number
    → s ≡ segment station f number
segment_is s station f number station_is file_is number_is =
    ap (λ (x : StationId). segment x s.file s.number) (sym station_is)
    ∙ ap (λ (x : File). segment station x s.number) (sym file_is)
    ∙ ap (segment station f) number_is

-- a piece is that very segment
pub piece-is : (all : List FileSegment) (station : StationId) (f : File) (number : ℕ) (s : FileSegment) → IsOfSent all station f
    → IsIn s all → is_of station f number s ≡ true → s ≡ segment station f number
piece-is all station f number s of_sent there is = elim (cases_Bool (is_segmented s.file.form s.file.payload)) [
  | inl cut ↦
      let fields = segmentation-cut s.file s.number cut in
      let test : (same_file (arrival_of (segment station f 1)) (seg_of_file f 1) (arrival_of s)
      (seg_of_file s.file s.number) && (s.number == number)) ≡ true =
      subst (λ (o : Option Seg). is_piece (arrival_of (segment station f 1))
      (seg_of_file f 1) number (arrival_of s) o ≡ true) fields is in
      let both = and_parts _ _ test in
      let four = and_parts _ _ both.0 in
      let three = and_parts _ _ four.0 in
      let two = and_parts _ _ three.0 in
      let one = and_parts _ _ two.0 in
      let station_is : station ≡ s.station = (of_sent.told station s.station).0 one.0 in
      let file_is : f ≡ s.file = of_sent.apart (segment station f of_sent.some) s of_sent.sent there of_sent.cut cut
      station_is (eqb-true _ _ one.1) (eqb-true _ _ two.1) (eqb-true _ _ three.1) in
      segment_is s station f number station_is file_is (eqb-true _ _ both.1)
  | inr whole ↦
      let none = segmentation-whole s.file s.number whole in
      let test : false ≡ true =
      subst (λ (o : Option Seg). is_piece (arrival_of (segment station f 1))
      (seg_of_file f 1) number (arrival_of s) o ≡ true) none is in
      absurd (cc)
]

pub is_piece-of : (all : List FileSegment) (station : StationId) (f : File) (number : ℕ) → IsOfSent all station f
    → is_of station f number (segment station f number) ≡ true
is_piece-of all station f number of_sent =
    subst (λ (o : Option Seg). is_piece (arrival_of (segment station f 1))
    (seg_of_file f 1) number (arrival_of (segment station f number)) o ≡ true)
    (sym (segmentation-cut f number of_sent.cut))
    (and_from _ _ (and_from _ _ (and_from _ _ (and_from _ _ (and_from _ _
    ((of_sent.told station station).1 refl) (eq-eqb f.product f.product refl)) (eq-eqb f.version f.version refl))
    (eq-eqb f.number f.number refl)) (eq-eqb (length (parts_of f)) (length (parts_of f)) refl)) (eq-eqb number number refl))

-- each of these stands among all
abbrev pub AreAmong : List FileSegment → List FileSegment → Type 0
AreAmong xs all = (s : FileSegment) → IsIn s xs → IsIn s all

pub has-in : (all : List FileSegment) (station : StationId) (f : File) (number : ℕ) (xs : List FileSegment) → IsOfSent all station f
    → AreAmong xs all → has station f number xs ≡ true → IsIn (segment station f number) xs
has-in all station f number [] of_sent among h = absurd (cc)
has-in all station f number (x ∷ xs) of_sent among h = elim (or_cases (is_of station f number x) (has station f number xs) h) [
  | inl here ↦ inl (sym (piece-is all station f number x of_sent (among x (inl refl)) here))
  | inr later ↦ inr (has-in all station f number xs of_sent (λ s there. among s (inr there)) later)
]

pub in-has : (all : List FileSegment) (station : StationId) (f : File) (number : ℕ) (xs : List FileSegment) → IsOfSent all station f
    → IsIn (segment station f number) xs → has station f number xs ≡ true
in-has all station f number [] of_sent h = absurd h
in-has all station f number (x ∷ xs) of_sent (inl e) =
    or_left (is_of station f number x) (has station f number xs)
    (subst (λ (s : FileSegment). is_of station f number s ≡ true) e (is_piece-of all station f number of_sent))
in-has all station f number (x ∷ xs) of_sent (inr h) =
    or_right (is_of station f number x) (has station f number xs) (in-has all station f number xs of_sent h)

-- the first piece of a number carries that part
pub first-is : (all : List FileSegment) (station : StationId) (f : File) (number : ℕ) (xs : List FileSegment) → IsOfSent all station f
    → AreAmong xs all → IsIn (segment station f number) xs
    → bytes_of_piece (first_piece (map arrival_of xs) (arrival_of (segment station f 1)) (seg_of_file f 1) number)
    ≡ part_of f number
first-is all station f number [] of_sent among h = absurd h
first-is all station f number (x ∷ xs) of_sent among h = elim (cases_Bool (is_of station f number x)) [
  | inl here ↦
      let e : x ≡ segment station f number = piece-is all station f number x of_sent (among x (inl refl)) here in
      ap bytes_of_piece (cond-true (is_of station f number x) (Some (arrival_of x)) (first_piece (map arrival_of xs)
      (arrival_of (segment station f 1)) (seg_of_file f 1) number) here)
      ∙ ap (λ (s : FileSegment). part_of s.file s.number) e
  | inr other ↦
      let later : IsIn (segment station f number) xs = elim h [
        | inl e ↦
            let is : is_of station f number x ≡ true =
            subst (λ (s : FileSegment). is_of station f number s ≡ true) e (is_piece-of all station f number of_sent) in
            absurd (cc)
        | inr there ↦ there
      ] in
      ap bytes_of_piece (cond-false (is_of station f number x) (Some (arrival_of x)) (first_piece (map arrival_of xs)
      (arrival_of (segment station f 1)) (seg_of_file f 1) number) other)
      ∙ first-is all station f number xs of_sent (λ s there. among s (inr there)) later
]

-- all of them joined are the payload
pub joined-is : (all : List FileSegment) (station : StationId) (f : File) (xs : List FileSegment) → IsOfSent all station f
    → AreAmong xs all → HasAll xs station f
    → joined_payload (map arrival_of xs) (arrival_of (segment station f 1)) (seg_of_file f 1) ≡ f.payload
joined-is all station f xs of_sent among has_all =
    flat_map_same _ (part_of f) (range_with_len 1 (length (parts_of f))) (λ n there.
    let within = in_range n 1 (length (parts_of f)) there in
    first-is all station f n xs of_sent among (has_all n within.0 (omega arith)))
    ∙ read_all (parts_of f) ∙ (are_parts f.form f.payload).whole
