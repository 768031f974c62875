-- The payloads that arrivals complete take no more room together than the arrivals: each file is completed once, and only
-- by its own arrivals. The room of a payload is its bytes, and the six at least that stand before one in a frame.
use Rattle.std.proofs.Common.{◌≡◌, ℕ, ◌+◌, ◌≤◌, Bool, true, false, cond, ◌==◌, List, [], ◌∷◌, ◌++◌, length, filter_map, Option, Some, None, refl, sym, ap, ◌∙◌, inl, inr, arith}
use Rattle.std.specs.List.{AllByRecursion, list_all, sum_by, range_with_len}
use Rattle.std.proofs.lemmas.Bool.{cases_Bool, and_parts, and_from, or_left, or_right, eqb-true, eq-eqb, false_from_ne_true, cond-true, cond-false}
use Rattle.std.proofs.lemmas.List.{append_assoc, append-nil}
use Rattle.std.proofs.lemmas.List.Folds.{list_any-append}
use Rattle.std.proofs.lemmas.List.Sums.{sum_by-append, sum_by-le-sum_by, sum_by_push}
use Rattle.list_members.specs.Ranges.{all_in, list_all_same, list_any_same, range_has}
use Rattle.apdu_core.specs.declared.apdu.Seg.{Seg}
use Rattle.uplink_frame.specs.Laws.{StationsAreTold}
use Rattle.uplink_frame.specs.Station.{same_station}
use Rattle.segment_core.specs.Arrival.{Arrival, Whole, whole_payloads, completed_after, completes, has_piece, is_piece, joined_payload, other_numbers, same_file, whole_with}
use Rattle.receiver_core.proofs.JoinedSizes.{is_of_file, joined_size}
use Rattle.receiver_core.proofs.Weights.{all_but, all_more, cond_below, sum_of_two}

-- the fields by which two arrivals are of one file
record IsOneFile (a : Arrival) (s : Seg) (b : Arrival) (t : Seg) : Type 0 where
  pub station : a.station ≡ b.station
  pub product : a.product ≡ b.product
  pub version : a.version ≡ b.version
  pub file : s.file ≡ t.file
  pub count : s.count ≡ t.count

one_file : StationsAreTold → (a : Arrival) (s : Seg) (b : Arrival) (t : Seg) → same_file a s b t ≡ true → IsOneFile a s b t
one_file told a s b t same =
    let counts = and_parts _ (s.count == t.count) same in
    let files = and_parts _ (s.file == t.file) counts.0 in
    let versions = and_parts _ (a.version == b.version) files.0 in
    let products = and_parts (same_station a.station b.station) (a.product == b.product) versions.0 in
    record {
      station = (told a.station b.station).0 products.0;
      product = eqb-true a.product b.product products.1;
      version = eqb-true a.version b.version versions.1;
      file = eqb-true s.file t.file files.1;
      count = eqb-true s.count t.count counts.1;
    }

own_file : StationsAreTold → (a : Arrival) (s : Seg) → same_file a s a s ≡ true
own_file told a s =
    and_from _ (s.count == s.count)
    (and_from _ (s.file == s.file)
    (and_from _ (a.version == a.version)
    (and_from (same_station a.station a.station) (a.product == a.product)
    ((told a.station a.station).1 refl) (eq-eqb a.product a.product refl))
    (eq-eqb a.version a.version refl)) (eq-eqb s.file s.file refl)) (eq-eqb s.count s.count refl)

piece_same : (a : Arrival) (s : Seg) (b : Arrival) (t : Seg) → IsOneFile a s b t
    → (n : ℕ) (c : Arrival) (o : Option Seg) → is_piece b t n c o ≡ is_piece a s n c o
piece_same a s b t one n c None = refl
piece_same a s b t one n c (Some u) =
    let station = one.station in
    let product = one.product in
    let version = one.version in
    let file = one.file in
    let count = one.count in
    rw (station, product, version, file, count) refl

has_same : (a : Arrival) (s : Seg) (b : Arrival) (t : Seg) → IsOneFile a s b t
    → (came : List Arrival) (n : ℕ) → has_piece came b t n ≡ has_piece came a s n
has_same a s b t one came n =
    list_any_same (λ c. is_piece b t n c c.segmentation) (λ c. is_piece a s n c c.segmentation) came
    (λ c there. piece_same a s b t one n c c.segmentation)

-- each number of its file has arrived
abbrev has_all : List Arrival → Arrival → Seg → Bool
has_all came b t = list_all (has_piece came b t) (range_with_len 1 t.count)

abbrev is_done : List Arrival → Arrival → Option Seg → Bool
is_done came b None = true
is_done came b (Some t) = has_all came b t

done_same : (a : Arrival) (s : Seg) (b : Arrival) (t : Seg) → IsOneFile a s b t
    → (came : List Arrival) → has_all came b t ≡ has_all came a s
done_same a s b t one came =
    list_all_same (has_piece came b t) (has_piece came a s) (range_with_len 1 t.count) (λ n there. has_same a s b t one came n)
    ∙ ap (λ k. list_all (has_piece came a s) (range_with_len 1 k)) (sym one.count)

has_more : (came : List Arrival) (a : Arrival) (b : Arrival) (t : Seg) (n : ℕ)
    → has_piece came b t n ≡ true → has_piece (came ++ a ∷ []) b t n ≡ true
has_more came a b t n has =
    list_any-append (λ c. is_piece b t n c c.segmentation) came (a ∷ []) ∙ or_left (has_piece came b t n) _ has

done_more : (came : List Arrival) (a b : Arrival) (o : Option Seg)
    → is_done came b o ≡ true → is_done (came ++ a ∷ []) b o ≡ true
done_more came a b None done = refl
done_more came a b (Some t) done =
    all_more (has_piece came b t) (has_piece (came ++ a ∷ []) b t) (range_with_len 1 t.count) (has_more came a b t) done

-- the segment's number is from 1 to the count
abbrev pub IsNumbered : Option Seg → Type 0
IsNumbered None = Unit {0}
IsNumbered (Some s) = (1 ≤ s.number) × (s.number ≤ s.count)

abbrev pub AreNumbered : List Arrival → Type 0
AreNumbered came = AllByRecursion (λ (a : Arrival). IsNumbered a.segmentation) came

-- its number is new, and each other number had arrived
record IsLast (came : List Arrival) (a : Arrival) (s : Seg) : Type 0 where
  pub segmentation_is : a.segmentation ≡ Some s
  pub numbered : (1 ≤ s.number) × (s.number ≤ s.count)
  pub new : has_piece came a s s.number ≡ false
  pub others : list_all (has_piece came a s) (other_numbers s) ≡ true

done_now : StationsAreTold → (came : List Arrival) (a : Arrival) (s : Seg) → IsLast came a s → has_all (came ++ a ∷ []) a s ≡ true
done_now told came a s last =
    let own : is_piece a s s.number a a.segmentation ≡ true = ap (is_piece a s s.number a) last.segmentation_is
    ∙ and_from (same_file a s a s) (s.number == s.number) (own_file told a s) (eq-eqb s.number s.number refl) in
    let here : has_piece (came ++ a ∷ []) a s s.number ≡ true =
    list_any-append (λ c. is_piece a s s.number c c.segmentation) came (a ∷ [])
    ∙ or_right (has_piece came a s s.number) _ (or_left (is_piece a s s.number a a.segmentation) false own) in
    all_but (has_piece (came ++ a ∷ []) a s) s.number (range_with_len 1 s.count) here
    (all_more (has_piece came a s) (has_piece (came ++ a ∷ []) a s) (other_numbers s) (has_more came a a s) last.others)

not_done : (came : List Arrival) (a : Arrival) (s : Seg) → IsLast came a s → has_all came a s ≡ false
not_done came a s last = false_from_ne_true (has_all came a s) (λ all.
    let least = last.numbered.0 in
    let most = last.numbered.1 in
    let there = range_has s.number 1 s.count least (omega arith) in
    let has = all_in (has_piece came a s) s.number (range_with_len 1 s.count) all there in
    let lacks = last.new in absurd (cc))

-- the room that is weighed is that of versions that live
module _ (told : StationsAreTold) (live : ℕ → ℕ → Bool) where
  abbrev pub weight : Arrival → ℕ
  weight a = cond (live a.product a.version) (6 + length a.payload) 0

  abbrev pub whole_weight : Whole → ℕ
  whole_weight whole = cond (live whole.product whole.version) (6 + length whole.payload) 0

  abbrev done_weight : List Arrival → Arrival → ℕ
  done_weight came b = cond (is_done came b b.segmentation) (weight b) 0

  -- the weight of the arrivals whose files are whole
  abbrev done_sum : List Arrival → ℕ
  done_sum came = sum_by (done_weight came) came

  abbrev file_weight : Arrival → Seg → Arrival → ℕ
  file_weight a s b = cond (is_of_file a s b b.segmentation) (weight b) 0

  kept_weight : (came : List Arrival) (a b : Arrival) → done_weight came b ≤ done_weight (came ++ a ∷ []) b
  kept_weight came a b = cond_below (is_done came b b.segmentation) (is_done (came ++ a ∷ []) b b.segmentation) (weight b)
      (done_more came a b b.segmentation)

  sum_with : (came : List Arrival) (a : Arrival)
      → done_sum (came ++ a ∷ []) ≡ sum_by (done_weight (came ++ a ∷ [])) came + done_weight (came ++ a ∷ []) a
  sum_with came a = sum_by_push (done_weight (came ++ a ∷ [])) came a

  kept_sum : (came : List Arrival) (a : Arrival) → done_sum came ≤ sum_by (done_weight (came ++ a ∷ [])) came
  kept_sum came a = sum_by-le-sum_by (done_weight came) (done_weight (came ++ a ∷ [])) came (kept_weight came a)

  -- the arrivals of the file were not done before, and are now
  of_file : (came : List Arrival) (a : Arrival) (s : Seg) → IsLast came a s → (b : Arrival) (o : Option Seg) (size : ℕ)
      → cond (is_of_file a s b o) size 0 + cond (is_done came b o) size 0 ≤ cond (is_done (came ++ a ∷ []) b o) size 0
  of_file came a s last b None size = omega arith
  of_file came a s last b (Some t) size = elim (cases_Bool (same_file a s b t)) [
    | inl same ↦
        let one = one_file told a s b t same in
        let before : has_all came b t ≡ false = done_same a s b t one came ∙ not_done came a s last in
        let now : has_all (came ++ a ∷ []) b t ≡ true = done_same a s b t one (came ++ a ∷ []) ∙ done_now told came a s last in
        rw (same, before, now) (omega arith)
    | inr other ↦
        let more = cond_below (has_all came b t) (has_all (came ++ a ∷ []) b t) size (done_more came a b (Some t)) in
        rw other (omega (arith, more))
  ]

  file_sum : (came : List Arrival) (a : Arrival) (s : Seg) → IsLast came a s
      → sum_by (file_weight a s) (came ++ a ∷ []) + done_sum came ≤ done_sum (came ++ a ∷ [])
  file_sum came a s last =
      let before = sum_of_two (file_weight a s) (done_weight came) (done_weight (came ++ a ∷ [])) came
      (λ b. of_file came a s last b b.segmentation (weight b)) in
      let here = of_file came a s last a a.segmentation (weight a) in
      omega (arith, before, here, sum_with came a, sum_by_push (file_weight a s) came a)

  -- a file lives with each of its arrivals
  live_file : (a : Arrival) (s : Seg) → live a.product a.version ≡ true → (b : Arrival) (o : Option Seg)
      → cond (is_of_file a s b o) (length b.payload) 0 ≤ cond (is_of_file a s b o) (weight b) 0
  live_file a s alive b None = omega arith
  live_file a s alive b (Some t) = elim (cases_Bool (same_file a s b t)) [
    | inl same ↦
        let one = one_file told a s b t same in
        let version : live b.product b.version ≡ true =
        ap (live b.product) (sym one.version) ∙ ap (λ p. live p a.version) (sym one.product) ∙ alive in
        rw (same, version) (omega arith)
    | inr other ↦ rw other (omega arith)
  ]

  -- the arrival that completes its file is one of it, and has its own six bytes before its payload
  joined_weight : (came : List Arrival) (a : Arrival) (s : Seg) → a.segmentation ≡ Some s
      → whole_weight (whole_with a (joined_payload (came ++ a ∷ []) a s)) ≤ sum_by (file_weight a s) (came ++ a ∷ [])
  joined_weight came a s is = elim (cases_Bool (live a.product a.version)) [
    | inl alive ↦
        let all = came ++ a ∷ [] in
        let size_in : Arrival → ℕ = λ b. cond (is_of_file a s b b.segmentation) (length b.payload) 0 in
        let size = joined_size a s all in
        let weighs = sum_by-le-sum_by size_in (file_weight a s) came (λ b. live_file a s alive b b.segmentation) in
        let of : is_of_file a s a a.segmentation ≡ true = ap (is_of_file a s a) is ∙ own_file told a s in
        let own_size = cond-true (is_of_file a s a a.segmentation) (length a.payload) 0 of in
        let own_weight = cond-true (is_of_file a s a a.segmentation) (weight a) 0 of in
        let weight_is = cond-true (live a.product a.version) (6 + length a.payload) 0 alive in
        let joined_is = cond-true (live a.product a.version) (6 + length (joined_payload all a s)) 0 alive in
        let sizes = sum_by_push size_in came a in
        let weights = sum_by_push (file_weight a s) came a in
        omega (arith, size, weighs, own_size, own_weight, weight_is, joined_is, sizes, weights)
    | inr dead ↦
        let own = cond-false (live a.product a.version) (6 + length (joined_payload (came ++ a ∷ []) a s)) 0 dead in
        omega (arith, own)
  ]

  -- what an arrival completes weighs no more than what is done with it
  step_by : (came : List Arrival) (a : Arrival) (o : Option Seg) → a.segmentation ≡ o → IsNumbered o
      → sum_by whole_weight (filter_map (completes came a) (o ∷ [])) + done_sum came ≤ done_sum (came ++ a ∷ [])
  step_by came a None none numbered =
      let kept = kept_sum came a in
      let own : done_weight (came ++ a ∷ []) a ≡ weight a = ap (λ o. cond (is_done (came ++ a ∷ []) a o) (weight a) 0) none in
      omega (arith, kept, own, sum_with came a)
  step_by came a (Some s) is numbered =
      let kept = kept_sum came a in
      elim (cases_Bool (has_piece came a s s.number)) [
        | inl again ↦ rw again (omega (arith, kept, sum_with came a))
        | inr new ↦ elim (cases_Bool (list_all (has_piece came a s) (other_numbers s))) [
          | inl others ↦
              let last : IsLast came a s = record { segmentation_is = is; numbered = numbered; new = new; others = others } in
              let sum = file_sum came a s last in
              let weighs = joined_weight came a s is in
              rw (new, others) (omega (arith, sum, weighs))
          | inr waits ↦ rw (new, waits) (omega (arith, kept, sum_with came a))
        ]
      ]

  completed_more : (came later : List Arrival) → AreNumbered later
      → sum_by whole_weight (completed_after came later) + done_sum came ≤ done_sum (came ++ later)
  completed_more came [] numbered = omega (arith, ap done_sum (append-nil came))
  completed_more came (a ∷ later) numbered =
      let here = step_by came a a.segmentation refl numbered.0 in
      let more = completed_more (came ++ a ∷ []) later numbered.1 in
      let moved = ap done_sum (append_assoc came (a ∷ []) later) in
      let split = sum_by-append whole_weight (filter_map (completes came a) (a.segmentation ∷ []))
      (completed_after (came ++ a ∷ []) later) in
      omega (arith, here, more, moved, split)

  pub completed_weight : (came : List Arrival) → AreNumbered came → sum_by whole_weight (whole_payloads came) ≤ sum_by weight came
  completed_weight came numbered =
      let done = completed_more [] came numbered in
      let least = sum_by-le-sum_by (done_weight came) weight came (λ b. cond_below (is_done came b b.segmentation) true (weight b)
      (λ h. refl)) in
      omega (arith, done, least)
