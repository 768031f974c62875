-- What arrivals complete: files of which each segment has arrived, and each of these.
use Rattle.std.proofs.Common.{◌≡◌, ℕ, ◌≤◌, Bool, true, false, not, ◌&&◌, ◌==◌}
use Rattle.std.proofs.Common.{List, [], ◌∷◌, ◌++◌, length, map, get_or, filter_map}
use Rattle.std.proofs.Common.{Some, None, refl, sym, ap, subst, ◌∙◌, inl, inr, arith}
use Rattle.std.specs.List.{list_all, range_with_len}
use Rattle.std.proofs.lemmas.Bool.{cases_Bool, cases_eq, and_parts, and_from, cond-true, cond-false}
use Rattle.std.proofs.lemmas.Bool.{eqb-false, ne_eqb, not-true, not_from_false, false_from_ne_true}
use Rattle.std.proofs.lemmas.List.{append_assoc, append-nil, map-append}
use Rattle.uplink_frame.specs.declared.station.StationId.{StationId}
use Rattle.uplink_frame.specs.Laws.{StationsAreTold}
use Rattle.apdu_core.specs.declared.apdu.Seg.{Seg}
use Rattle.list_members.specs.Membership.{IsIn}
use Rattle.list_members.specs.Members.{IsIn-before, IsIn-after, IsIn-either, IsIn-filter, IsIn-from_filter}
use Rattle.list_members.specs.ListMembers.{in_filter_map, filter_map_has, in_one}
use Rattle.segment_core.specs.File.{File, is_segmented, parts_of, part_of, segmentation_of}
use Rattle.segment_core.specs.Arrival.{Arrival, Whole, whole_with, joined_payload, other_numbers, completes}
use Rattle.segment_core.specs.Arrival.{completed_after}
use Rattle.segment_core.specs.Joining.{FileSegment, segment, arrival_of, whole_of, AreSent, HasAll, IsOfFile}
use Rattle.segment_core.specs.OnePart.{parts-whole, one-part}
use Rattle.segment_core.proofs.Parts.{are_parts}
use Rattle.list_members.specs.Ranges.{in_range, range_has, all_in, in_all, not_all_in}
use Rattle.segment_core.proofs.Joined.{seg_of_file, segmentation-cut, segmentation-whole, has, IsOfSent, AreAmong, has-in}
use Rattle.segment_core.proofs.Joined.{in-has, joined-is}

-- one more arrival, among those that were there
pub completed_after-append : (before xs ys : List Arrival)
    → completed_after before (xs ++ ys) ≡ completed_after before xs ++ completed_after (before ++ xs) ys
completed_after-append before [] ys = ap (λ (b : List Arrival). completed_after b ys) (sym (append-nil before))
completed_after-append before (x ∷ xs) ys =
    let now : List Whole = filter_map (completes before x) (x.segmentation ∷ []) in
    let later : completed_after (before ++ x ∷ []) (xs ++ ys)
    ≡ completed_after (before ++ x ∷ []) xs ++ completed_after ((before ++ x ∷ []) ++ xs) ys =
    completed_after-append (before ++ x ∷ []) xs ys in
    let moved : completed_after ((before ++ x ∷ []) ++ xs) ys ≡ completed_after (before ++ x ∷ xs) ys =
    ap (λ (b : List Arrival). completed_after b ys) (append_assoc before (x ∷ []) xs) in
    ap (λ (rest : List Whole). now ++ rest)
    (later ∙ ap (λ (rest : List Whole). completed_after (before ++ x ∷ []) xs ++ rest) moved)
    ∙ sym (append_assoc now (completed_after (before ++ x ∷ []) xs) (completed_after (before ++ x ∷ xs) ys))

-- what one arrival completes
abbrev pub completed_now : List Arrival → Arrival → List Whole
completed_now before a = filter_map (completes before a) (a.segmentation ∷ [])

pub whole-brought : (before : List Arrival) (a : Arrival) (w : Whole) → IsIn w (completed_now before a)
    → completes before a a.segmentation ≡ Some w
whole-brought before a w h =
    let got = in_filter_map (completes before a) w (a.segmentation ∷ []) h in
    ap (completes before a) (sym (in_one got.0 a.segmentation got.1)) ∙ got.2

pub brings : (before : List Arrival) (a : Arrival) (w : Whole) (rest : List Whole) → completes before a a.segmentation ≡ Some w
    → IsIn w (completed_now before a ++ rest)
brings before a w rest is = IsIn-before w (completed_now before a) rest
    (filter_map_has (completes before a) a.segmentation w (a.segmentation ∷ []) (inl refl) is)

-- the other numbers of a segment
pub others-in : (s : Seg) (n : ℕ) → 1 ≤ n → n ≤ s.count → (n ≡ s.number → ⊥) → IsIn n (other_numbers s)
others-in s n least most other =
    IsIn-filter (λ (k : ℕ). not (k == s.number)) n (range_with_len 1 s.count) (range_has n 1 s.count least (omega arith))
    (not_from_false _ (ne_eqb n s.number other))

pub in-others : (s : Seg) (n : ℕ) → IsIn n (other_numbers s) → (1 ≤ n) × (n ≤ s.count) × (n ≡ s.number → ⊥)
in-others s n there =
    let both = IsIn-from_filter (λ (k : ℕ). not (k == s.number)) n (range_with_len 1 s.count) there in
    let within = in_range n 1 s.count both.0 in
    (within.0, omega arith, eqb-false n s.number (not-true _ both.1))

-- the test by which a segment completes its file
abbrev is_last_missing : List FileSegment → StationId → File → ℕ → Bool
is_last_missing before station f number = not (has station f number before)
    && list_all (λ (n : ℕ). has station f n before) (other_numbers (seg_of_file f number))

-- what an arrival of segments makes whole
abbrev joined_whole : List FileSegment → StationId → File → ℕ → Whole
joined_whole before station f number = whole_with (arrival_of (segment station f number))
    (joined_payload (map arrival_of before ++ arrival_of (segment station f number) ∷ []) (arrival_of (segment station f 1))
    (seg_of_file f 1))

all_cut : (before : List FileSegment) (station : StationId) (f : File) (number : ℕ) (all : List FileSegment) → IsOfSent all station f
    → AreAmong before all → is_last_missing before station f number ≡ true
    → HasAll (before ++ segment station f number ∷ []) station f
all_cut before station f number all of_sent among test n least most = elim (cases_eq n number) [
  | inl e ↦ IsIn-after _ before (segment station f number ∷ []) (inl (ap (segment station f) e))
  | inr other ↦ IsIn-before _ before (segment station f number ∷ [])
      (has-in all station f n before of_sent among
      (all_in _ n (other_numbers (seg_of_file f number))
      (and_parts _ _ test).1 (others-in (seg_of_file f number) n least most other)))
]

joined_whole-is : (before : List FileSegment) (station : StationId) (f : File) (number : ℕ) (all : List FileSegment) → IsOfSent all station f
    → AreAmong (before ++ segment station f number ∷ []) all → HasAll (before ++ segment station f number ∷ []) station f
    → joined_whole before station f number ≡ whole_of f
joined_whole-is before station f number all of_sent among has_all =
    let moved : map arrival_of (before ++ segment station f number ∷ [])
    ≡ map arrival_of before ++ arrival_of (segment station f number) ∷ [] =
    map-append arrival_of before (segment station f number ∷ []) in
    ap (whole_with (arrival_of (segment station f number)))
    (ap (λ (arrived : List Arrival). joined_payload arrived (arrival_of (segment station f 1)) (seg_of_file f 1)) (sym moved)
    ∙ joined-is all station f (before ++ segment station f number ∷ []) of_sent among has_all)

-- what a segment of a file that is cut completes: that file, where it has all
joined_whole_only : (before : List FileSegment) (station : StationId) (f : File) (number : ℕ) (all : List FileSegment) (w : Whole)
    → IsOfSent all station f
    → AreAmong (before ++ segment station f number ∷ []) all
    → completes (map arrival_of before) (arrival_of (segment station f number)) (Some (seg_of_file f number)) ≡ Some w
    → (w ≡ whole_of f) × HasAll (before ++ segment station f number ∷ []) station f
joined_whole_only before station f number all w of_sent among is = elim (cases_Bool (is_last_missing before station f number)) [
  | inl test ↦
      let has_all : HasAll (before ++ segment station f number ∷ []) station f =
      all_cut before station f number all of_sent (λ s there. among s (IsIn-before s before (segment station f number ∷ [])
      there)) test in
      let some : Some (joined_whole before station f number) ≡ Some w =
      sym (cond-true (is_last_missing before station f number) (Some (joined_whole before station f number)) None test) ∙ is in
      let e : joined_whole before station f number ≡ w = cc in
      (sym e ∙ joined_whole-is before station f number all of_sent among has_all, has_all)
  | inr fails ↦
      let none : None ≡ Some w =
      sym (cond-false (is_last_missing before station f number) (Some (joined_whole before station f number)) None fails) ∙ is in
      absurd (cc)
]

-- the last segment that was still to come makes the file whole
made_whole : (before : List FileSegment) (station : StationId) (f : File) (number : ℕ) (all : List FileSegment) → IsOfSent all station f
    → AreAmong (before ++ segment station f number ∷ []) all → HasAll (before ++ segment station f number ∷ []) station f
    → has station f number before ≡ false
    → completes (map arrival_of before) (arrival_of (segment station f number)) (Some (seg_of_file f number)) ≡ Some (whole_of f)
made_whole before station f number all of_sent among has_all new =
    let before_in : AreAmong before all = λ s there. among s (IsIn-before s before (segment station f number ∷ []) there) in
    let others : list_all (λ (n : ℕ). has station f n before) (other_numbers (seg_of_file f number)) ≡ true =
    in_all (λ (n : ℕ). has station f n before) (other_numbers (seg_of_file f number)) (λ n there.
    let o = in-others (seg_of_file f number) n there in
    in-has all station f n before of_sent (elim (IsIn-either _ before (segment station f number ∷ []) (has_all n o.0 o.1)) [
      | inl old ↦ old
      | inr now ↦ absurd (o.2 (ap (λ (s : FileSegment). s.number) (in_one _ _ now)))
    ])) in
    let test : is_last_missing before station f number ≡ true = and_from _ _ (not_from_false _ new) others in
    cond-true (is_last_missing before station f number) (Some (joined_whole before station f number)) None test
    ∙ ap Some (joined_whole-is before station f number all of_sent among has_all)

one_part : (f : File) (number : ℕ) → is_segmented f.form f.payload ≡ false → 1 ≤ number → number ≤ length (parts_of f)
    → (number ≡ 1) × (part_of f number ≡ f.payload)
one_part f number whole least most =
    let one : length (parts_of f) ≡ 1 = one-part f.form f.payload whole in
    let first : number ≡ 1 = omega arith in (
      first,
      ap (λ (n : ℕ). part_of f n) first ∙ ap (λ (ps : List (List ℕ)). get_or ps 0 [])
          (parts-whole f.form f.payload whole),
    )

-- What one arrival completes is a file that has all.
record CompletesFile (before : List FileSegment) (s : FileSegment) (w : Whole) : Type 0 where
  whole_is : w ≡ whole_of s.file
  has_all : HasAll (before ++ s ∷ []) s.station s.file

completes_file : (before : List FileSegment) (s : FileSegment) (all : List FileSegment) (w : Whole) → StationsAreTold → AreSent all
    → AreAmong (before ++ s ∷ []) all → completes (map arrival_of before) (arrival_of s) (segmentation_of s.file s.number)
    ≡ Some w
    → CompletesFile before s w
completes_file before s all w told sent among is =
    let s_in : IsIn s all = among s (IsIn-after s before (s ∷ []) (inl refl)) in
    elim (cases_Bool (is_segmented s.file.form s.file.payload)) [
      | inl cut ↦
          let of_sent : IsOfSent all s.station s.file = record {
            told = told;
            apart = sent.apart;
            cut = cut;
            some =
                s.number;
            sent = s_in;
          } in
          let both = joined_whole_only before s.station s.file s.number all w of_sent among
          (ap (completes (map arrival_of before) (arrival_of s)) (sym (segmentation-cut s.file s.number cut)) ∙ is) in
          record { whole_is = both.0; has_all = both.1 }
      | inr whole ↦
          let numbered = sent.numbered s s_in in
          let one = one_part s.file s.number whole numbered.0 numbered.1 in
          let some : Some (whole_with (arrival_of s) (part_of s.file s.number)) ≡ Some w =
          ap (completes (map arrival_of before) (arrival_of s)) (sym (segmentation-whole s.file s.number whole)) ∙ is in
          let e : whole_with (arrival_of s) (part_of s.file s.number) ≡ w = cc in
          record {
            whole_is = sym e ∙ ap (whole_with (arrival_of s)) one.1;
            has_all = λ n least most.
                let same : n ≡ s.number = (one_part s.file n whole least most).0 ∙ sym one.0 in
                IsIn-after _ before (s ∷ []) (inl (ap (segment s.station s.file) same));
          }
    ]

moved_all : (before : List FileSegment) (s : FileSegment) (later : List FileSegment) (station : StationId) (f : File)
    → HasAll ((before ++ s ∷ []) ++ later) station f → HasAll (before ++ s ∷ later) station f
moved_all before s later station f has_all = subst (λ (xs : List FileSegment). HasAll xs station f)
    (append_assoc before (s ∷ []) later) has_all

more_all : (xs ys : List FileSegment) (station : StationId) (f : File) → HasAll xs station f → HasAll (xs ++ ys) station f
more_all xs ys station f has_all n least most = IsIn-before _ xs ys (has_all n least most)

sent_on : (before : List FileSegment) (s : FileSegment) (later : List FileSegment) → AreSent (before ++ s ∷ later)
    → AreSent ((before ++ s ∷ []) ++ later)
sent_on before s later sent = subst AreSent (sym (append_assoc before (s ∷ []) later)) sent

among_first : (before : List FileSegment) (s : FileSegment) (later : List FileSegment) → AreAmong (before ++ s ∷ []) (before ++ s ∷ later)
among_first before s later x there =
    subst (IsIn x) (append_assoc before (s ∷ []) later) (IsIn-before x (before ++ s ∷ []) later there)

pub only_files : StationsAreTold → (before now : List FileSegment) (whole : Whole) → AreSent (before ++ now)
    → IsIn whole (completed_after (map arrival_of before) (map arrival_of now)) → IsOfFile before now whole
only_files told before [] w sent h = absurd h
only_files told before (s ∷ later) w sent h =
    let moved : map arrival_of (before ++ s ∷ []) ≡ map arrival_of before ++ arrival_of s ∷ [] =
    map-append arrival_of before (s ∷ []) in
    elim (IsIn-either w (completed_now (map arrival_of before) (arrival_of s))
    (completed_after (map arrival_of before ++ arrival_of s ∷ []) (map arrival_of later)) h) [
      | inl here ↦
          let is = whole-brought (map arrival_of before) (arrival_of s) w here in
          let of_file = completes_file before s (before ++ s ∷ later) w told sent (among_first before s later) is in
          record {
            station = s.station;
            file = s.file;
            whole_is = of_file.whole_is;
            has_all = moved_all before s later s.station s.file (more_all (before ++ s ∷ []) later s.station s.file
                of_file.has_all);
            number = s.number;
            came_now = inl refl;
          }
      | inr rest ↦
          let on = only_files told (before ++ s ∷ []) later w (sent_on before s later sent)
          (subst (λ (b : List Arrival). IsIn w (completed_after b (map arrival_of later))) (sym moved) rest) in
          record {
            station = on.station;
            file = on.file;
            whole_is = on.whole_is;
            has_all = moved_all before s later on.station on.file on.has_all;
            number = on.number;
            came_now = inr on.came_now;
          }
    ]

-- each segment stands among these, as a test
abbrev has_each : StationId → File → List FileSegment → Bool
has_each station f xs = list_all (λ (n : ℕ). has station f n xs) (range_with_len 1 (length (parts_of f)))

each-all : (all : List FileSegment) (station : StationId) (f : File) (xs : List FileSegment) → IsOfSent all station f → AreAmong xs all
    → has_each station f xs ≡ true → HasAll xs station f
each-all all station f xs of_sent among each n least most =
    has-in all station f n xs of_sent among (all_in _ n _ each (range_has n 1 (length (parts_of f)) least (omega arith)))

-- a number that has not come is that of the segment that fills the file
missing : (all before : List FileSegment) (s : FileSegment) (station : StationId) (f : File) → IsOfSent all station f
    → has_each station f before ≡ false → HasAll (before ++ s ∷ []) station f
    → (n : ℕ) × (s ≡ segment station f n) × (has station f n before ≡ false)
missing all before s station f of_sent lacks has_all =
    let lost = not_all_in (λ (n : ℕ). has station f n before) (range_with_len 1 (length (parts_of f))) lacks in
    let within = in_range lost.0 1 (length (parts_of f)) lost.1 in
    elim (IsIn-either _ before (s ∷ []) (has_all lost.0 within.0 (omega arith))) [
      | inl old ↦
          let was : has station f lost.0 before ≡ true = in-has all station f lost.0 before of_sent old in
          let not_was : has station f lost.0 before ≡ false = lost.2 in
          absurd (cc)
      | inr now ↦ (lost.0, sym (in_one _ _ now), lost.2)
    ]

pub files : StationsAreTold → (before now : List FileSegment) (station : StationId) (file : File) → AreSent (before ++ now)
    → is_segmented file.form file.payload ≡ true → HasAll (before ++ now) station file → (HasAll before station file → ⊥)
    → IsIn (whole_of file) (completed_after (map arrival_of before) (map arrival_of now))
files told before [] station f sent cut has_all lacks =
    absurd (lacks (subst (λ (xs : List FileSegment). HasAll xs station f) (append-nil before) has_all))
files told before (s ∷ later) station f sent cut has_all lacks =
    let all : List FileSegment = before ++ s ∷ later in
    let moved : map arrival_of (before ++ s ∷ []) ≡ map arrival_of before ++ arrival_of s ∷ [] =
    map-append arrival_of before (s ∷ []) in
    let of_sent : IsOfSent all station f = record {
      told = told;
      apart = sent.apart;
      cut = cut;
      some = 1;
      sent = has_all 1 (omega arith) (are_parts f.form f.payload).some;
    } in
    let before_in : AreAmong before all = λ x there. IsIn-before x before (s ∷ later) there in
    let first_in : AreAmong (before ++ s ∷ []) all = among_first before s later in
    elim (cases_Bool (has_each station f (before ++ s ∷ []))) [
      | inl each ↦
          let has_first : HasAll (before ++ s ∷ []) station f =
          each-all all station f (before ++ s ∷ []) of_sent first_in each in
          let fails : has_each station f before ≡ false = false_from_ne_true (has_each station f before)
          (λ e. lacks (each-all all station f before of_sent before_in e)) in
          let lost = missing all before s station f of_sent fails has_first in
          let is : completes (map arrival_of before) (arrival_of s) (segmentation_of s.file s.number) ≡ Some (whole_of f) =
          subst (λ (x : FileSegment). completes (map arrival_of before) (arrival_of x) (segmentation_of x.file x.number)
          ≡ Some (whole_of f))
          (sym lost.1)
          (ap (completes (map arrival_of before) (arrival_of (segment station f lost.0))) (segmentation-cut f lost.0 cut)
          ∙ made_whole before station f lost.0 all of_sent
          (subst (λ (x : FileSegment). AreAmong (before ++ x ∷ []) all) lost.1 first_in)
          (subst (λ (x : FileSegment). HasAll (before ++ x ∷ []) station f) lost.1 has_first) lost.2) in
          brings (map arrival_of before) (arrival_of s) (whole_of f)
          (completed_after (map arrival_of before ++ arrival_of s ∷ []) (map arrival_of later)) is
      | inr fails ↦
          let lacks_first : HasAll (before ++ s ∷ []) station f → ⊥ = λ has_first.
          let each : has_each station f (before ++ s ∷ []) ≡ true = in_all _ _ (λ n there.
          let within = in_range n 1 (length (parts_of f)) there in
          in-has all station f n (before ++ s ∷ []) of_sent (has_first n within.0 (omega arith))) in
          absurd (cc) in
          IsIn-after (whole_of f) (completed_now (map arrival_of before) (arrival_of s))
          (completed_after (map arrival_of before ++ arrival_of s ∷ []) (map arrival_of later))
          (subst (λ (b : List Arrival). IsIn (whole_of f) (completed_after b (map arrival_of later))) moved
          (files told (before ++ s ∷ []) later station f (sent_on before s later sent) cut
          (subst (λ (xs : List FileSegment). HasAll xs station f) (sym (append_assoc before (s ∷ []) later)) has_all) lacks_first))
    ]

whole_on : (before : List Arrival) (now : List FileSegment) (station : StationId) (f : File) → is_segmented f.form f.payload ≡ false
    → IsIn (segment station f 1) now → IsIn (whole_of f) (completed_after before (map arrival_of now))
whole_on before [] station f whole h = absurd h
whole_on before (s ∷ later) station f whole (inl e) =
    let one : part_of f 1 ≡ f.payload = ap (λ (ps : List (List ℕ)). get_or ps 0 []) (parts-whole f.form f.payload whole) in
    let is : completes before (arrival_of (segment station f 1)) (segmentation_of f 1) ≡ Some (whole_of f) =
    ap (completes before (arrival_of (segment station f 1))) (segmentation-whole f 1 whole)
    ∙ ap (λ (bytes : List ℕ). Some (whole_with (arrival_of (segment station f 1)) bytes)) one in
    let at : completes before (arrival_of s) (segmentation_of s.file s.number) ≡ Some (whole_of f) =
    subst (λ (x : FileSegment). completes before (arrival_of x) (segmentation_of x.file x.number) ≡ Some (whole_of f)) e is in
    brings before (arrival_of s) (whole_of f) (completed_after (before ++ arrival_of s ∷ []) (map arrival_of later)) at
whole_on before (s ∷ later) station f whole (inr h) =
    IsIn-after (whole_of f) (completed_now before (arrival_of s)) (completed_after (before ++ arrival_of s ∷ [])
    (map arrival_of later))
    (whole_on (before ++ arrival_of s ∷ []) later station f whole h)

pub whole_files : (before now : List FileSegment) (station : StationId) (file : File) → AreSent (before ++ now)
    → is_segmented file.form file.payload ≡ false → IsIn (segment station file 1) now
    → IsIn (whole_of file) (completed_after (map arrival_of before) (map arrival_of now))
whole_files before now station f sent whole h = whole_on (map arrival_of before) now station f whole h
