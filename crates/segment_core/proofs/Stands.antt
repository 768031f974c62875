-- What is held after a segment was taken among the pieces is what is kept of the arrivals with it, and the answer is theirs.
use Rattle.std.proofs.Common.{◌≡◌, ℕ, ◌≤◌, Bool, true, false, cond, ◌&&◌, ◌||◌, ◌==◌, ◌⊎◌, List, []}
use Rattle.std.proofs.Common.{◌∷◌, ◌++◌, find, Option, Some, None, is_some, refl, sym, ap, ◌∙◌}
use Rattle.std.proofs.Common.{inl, inr, arith}
use Rattle.std.specs.Cmp.{both_ways}
use Rattle.std.specs.List.{list_any, list_all, range_with_len}
use Rattle.std.specs.Option.{option_map, option_or}
use Rattle.std.proofs.lemmas.Bool.{cases_Bool, cond-true, cond-false, and_from, or_left}
use Rattle.std.proofs.lemmas.Bool.{or_right, or_from, eqb-true, eqb-false, eq-eqb, ne_eqb, le-leb}
use Rattle.std.proofs.lemmas.List.Folds.{find-append, list_any-append}
use Rattle.std.proofs.Math.Bool.{or-false}
use Rattle.list_members.specs.Membership.{IsIn}
use Rattle.apdu_core.specs.declared.apdu.Seg.{Seg}
use Rattle.uplink_frame.specs.Station.{same_station}
use Rattle.uplink_frame.specs.Laws.{StationsAreTold}
use Rattle.segment_core.specs.Arrival.{Arrival, is_piece, first_piece, has_piece, bytes_of_piece, joined_payload, other_numbers}
use Rattle.segment_core.specs.Kept.{KeptPieces, IsNumbered, kept_under, kept_of, kept_piece, was_whole, with_number, piece_name}
use Rattle.segment_core.specs.Kept.{arrival_named, seg_of_name, same_piece}
use Rattle.segment_core.specs.HeldPieces.{is_held, others_held, bytes_at, held_bytes, joined_held, held_answer}
use Rattle.segment_core.specs.HeldPieces.{held_with, is_number_of}
use Rattle.segment_core.specs.Store.{live_answer}
use Rattle.segment_core.specs.declared.piece_name.PieceName.{PieceName}
use Rattle.segment_core.specs.declared.arrived.Taken.TheVariants.{Whole}
use Rattle.list_members.specs.Ranges.{in_range, range_has, all_in, in_all, not_all, not_all_in, list_all_same, flat_map_same}
use Rattle.list_members.specs.Tests.{none_from, mapped_some, or_none}
use Rattle.segment_core.proofs.Completed.{in-others, others-in}
use Rattle.segment_core.proofs.PieceNames.{same-is, same-self}

found_some : {A : Type 0} (p : A → Bool) (xs : List A) → is_some (find p xs) ≡ list_any p xs
found_some p [] = refl
found_some p (x ∷ xs) = elim (cases_Bool (p x)) [ inl t ↦ rw t refl | inr f ↦ rw f (found_some p xs) ]

some_or : {A : Type 0} (o p : Option A) → is_some o ≡ true → option_or o p ≡ o
some_or None p e = absurd (cc)
some_or (Some x) p e = refl

alone_kept : (o : Option Arrival) → is_some o ≡ true → option_map (kept_piece true) o ≡ Some None
alone_kept None e = absurd (cc)
alone_kept (Some x) e = refl

-- whether a piece of this number has arrived, the first such, and whether an arrival is one
abbrev pub has : List Arrival → PieceName → ℕ → Bool
has xs q n = has_piece xs (arrival_named q) (seg_of_name q) n

abbrev pub first : List Arrival → PieceName → ℕ → Option Arrival
first xs q n = first_piece xs (arrival_named q) (seg_of_name q) n

abbrev pub is : PieceName → ℕ → Arrival → Bool
is q n a = is_piece (arrival_named q) (seg_of_name q) n a a.segmentation

has-first : (xs : List Arrival) (q : PieceName) (n : ℕ) → is_some (first xs q n) ≡ has xs q n
has-first xs q n = found_some (is q n) xs

has-with : (xs : List Arrival) (a : Arrival) (q : PieceName) (n : ℕ) → has (xs ++ a ∷ []) q n ≡ (has xs q n || is q n a)
has-with xs a q n = list_any-append (is q n) xs (a ∷ []) ∙ ap (λ (b : Bool). has xs q n || b) (or-false (is q n a))

first-with : (xs : List Arrival) (a : Arrival) (q : PieceName) (n : ℕ) → first (xs ++ a ∷ []) q n ≡ option_or (first xs q n)
    (cond (is q n a) (Some a) None)
first-with xs a q n = find-append (is q n) xs (a ∷ [])

same_number : (x y : ℕ) → (x == y) ≡ (y == x)
same_number x y = both_ways (x == y) (y == x)
    (λ (e : (x == y) ≡ true). eq-eqb y x (sym (eqb-true x y e))) (λ (e : (y == x) ≡ true). eq-eqb x y (sym (eqb-true y x e)))

abbrev same_file_as : PieceName → Arrival → Seg → Bool
same_file_as q a s = same_station q.station a.station && (q.product == a.product) && (q.version == a.version)
    && (q.file == s.file) && (q.count == s.count)

-- an arrival with segment fields is the piece that its name says
pub is-named : (q : PieceName) (n : ℕ) (a : Arrival) (s : Seg) → a.segmentation ≡ Some s → is q n a
    ≡ same_piece (with_number q n) (piece_name a s)
is-named q n a s seg =
    ap (is_piece (arrival_named q) (seg_of_name q) n a) seg
    ∙ ap (λ (b : Bool). same_file_as q a s && b) (same_number s.number n)

-- what is kept, where neither the first piece nor the whole changes
kept_same : (xs ys : List Arrival) (q : PieceName) → first xs q q.number ≡ first ys q q.number
    → ((n : ℕ) → has xs q n ≡ has ys q n) → kept_of xs q ≡ kept_of ys q
kept_same xs ys q e each =
    let whole : was_whole xs q ≡ was_whole ys q = list_all_same (has xs q) (has ys q) (range_with_len 1 q.count)
    (λ n h. each n) in
    rw (e, whole) refl

-- an arrival that is no piece of the file changes nothing of it
pub kept_other : (xs : List Arrival) (a : Arrival) (q : PieceName) → ((n : ℕ) → is q n a ≡ false)
    → kept_of (xs ++ a ∷ []) q ≡ kept_of xs q
kept_other xs a q none = kept_same (xs ++ a ∷ []) xs q
    (first-with xs a q q.number ∙ rw (none q.number) (or_none (first xs q q.number)))
    (λ n. has-with xs a q n ∙ rw (none n) (or-false (has xs q n)))

-- what is known where a segment is taken: the pieces of its file are those kept of the arrivals
pub record IsKnown (pieces : KeptPieces) (taken : List Arrival) (a : Arrival) (s : Seg) : Type 0 where
  pub segmentation_is : a.segmentation ≡ Some s
  pub number : IsNumbered (piece_name a s)
  pub keeps : (n : ℕ) → 1 ≤ n → n ≤ s.count → kept_under pieces (with_number (piece_name a s) n)
      ≡ kept_of taken (with_number (piece_name a s) n)

module _ (told : StationsAreTold) (pieces : KeptPieces) (taken : List Arrival) (a : Arrival) (s : Seg) (known : IsKnown pieces taken a s) where
  held-has : (n : ℕ) → 1 ≤ n → n ≤ s.count → is_held pieces (piece_name a s) n ≡ has taken (piece_name a s) n
  held-has n least most = ap is_some (known.keeps n least most)
      ∙ mapped_some (kept_piece (was_whole taken (with_number (piece_name a s) n))) (first taken (piece_name a s) n)
      ∙ has-first taken (piece_name a s) n

  here : is_some (kept_under pieces (piece_name a s)) ≡ has taken (piece_name a s) s.number
  here = held-has s.number known.number.0 known.number.1

  others : others_held pieces (piece_name a s) ≡ list_all (has taken (piece_name a s)) (other_numbers s)
  others = list_all_same (is_held pieces (piece_name a s)) (has taken (piece_name a s)) (other_numbers s) (λ n there.
      let other = in-others s n there in held-has n other.0 other.1)

  is-own : (n : ℕ) → is (piece_name a s) n a ≡ (n == s.number)
  is-own n = both_ways (is (piece_name a s) n a) (n == s.number)
      (λ (e : is (piece_name a s) n a ≡ true).
      let same = same-is told (with_number (piece_name a s) n) (piece_name a s)
      (sym (is-named (piece_name a s) n a s known.segmentation_is) ∙ e) in
      eq-eqb n s.number (ap (λ (p : PieceName). p.number) same))
      (λ (e : (n == s.number) ≡ true).
      is-named (piece_name a s) n a s known.segmentation_is
      ∙ ap (λ (k : ℕ). same_piece (with_number (piece_name a s) k) (piece_name a s)) (eqb-true n s.number e)
      ∙ same-self told (piece_name a s))

  -- with others missing, no number of the file was whole before
  not_whole : has taken (piece_name a s) s.number ≡ false → was_whole taken (piece_name a s) ≡ false
  not_whole fails = not_all (has taken (piece_name a s)) s.number (range_with_len 1 s.count)
      (range_has s.number 1 s.count known.number.0 (let most = known.number.1 in omega arith)) fails

  first-own : has taken (piece_name a s) s.number ≡ false → first (taken ++ a ∷ []) (piece_name a s) s.number ≡ Some a
  first-own new =
      let own : is (piece_name a s) s.number a ≡ true = is-own s.number ∙ eq-eqb s.number s.number refl in
      let none : first taken (piece_name a s) s.number ≡ None =
      none_from (first taken (piece_name a s) s.number) (has-first taken (piece_name a s) s.number ∙ new) in
      first-with taken a (piece_name a s) s.number ∙ rw (none, own) refl

  first-other : (n : ℕ) → (n == s.number) ≡ false → first (taken ++ a ∷ []) (piece_name a s) n ≡ first taken (piece_name a s) n
  first-other n other =
      let not_own : is (piece_name a s) n a ≡ false = is-own n ∙ other in
      first-with taken a (piece_name a s) n ∙ rw not_own (or_none (first taken (piece_name a s) n))

  bytes_first : (o : Option Arrival) → is_some o ≡ true → held_bytes (option_map (kept_piece false) o) ≡ bytes_of_piece o
  bytes_first None e = refl
  bytes_first (Some b) e = refl

  bytes_same : has taken (piece_name a s) s.number ≡ false → list_all (has taken (piece_name a s)) (other_numbers s) ≡ true
      → (n : ℕ) → 1 ≤ n → n ≤ s.count → ((n == s.number) ≡ true) ⊎ ((n == s.number) ≡ false)
      → bytes_at pieces (piece_name a s) a.payload n ≡ bytes_of_piece (first (taken ++ a ∷ []) (piece_name a s) n)
  bytes_same new all n least most (inl own) =
      let at : n ≡ s.number = eqb-true n s.number own in
      cond-true (n == s.number) a.payload (held_bytes (kept_under pieces (with_number (piece_name a s) n))) own
      ∙ ap bytes_of_piece (sym (ap (first (taken ++ a ∷ []) (piece_name a s)) at ∙ first-own new))
  bytes_same new all n least most (inr other) =
      let there : IsIn n (other_numbers s) = others-in s n least most (eqb-false n s.number other) in
      let some : is_some (first taken (piece_name a s) n) ≡ true =
      has-first taken (piece_name a s) n ∙ all_in (has taken (piece_name a s)) n (other_numbers s) all there in
      cond-false (n == s.number) a.payload (held_bytes (kept_under pieces (with_number (piece_name a s) n))) other
      ∙ ap held_bytes (known.keeps n least most
      ∙ ap (λ (b : Bool). option_map (kept_piece b) (first taken (piece_name a s) n)) (not_whole new))
      ∙ bytes_first (first taken (piece_name a s) n) some
      ∙ ap bytes_of_piece (sym (first-other n other))

  joins : has taken (piece_name a s) s.number ≡ false → list_all (has taken (piece_name a s)) (other_numbers s) ≡ true
      → joined_held pieces (piece_name a s) a.payload ≡ joined_payload (taken ++ a ∷ []) a s
  joins new all = flat_map_same (bytes_at pieces (piece_name a s) a.payload)
      (λ (n : ℕ). bytes_of_piece (first (taken ++ a ∷ []) (piece_name a s) n))
      (range_with_len 1 s.count) (λ n there.
      let within = in_range n 1 s.count there in
      let most : n ≤ s.count = omega arith in
      bytes_same new all n within.0 most (cases_Bool (n == s.number)))

  -- the answer
  answer_held : held_answer pieces (piece_name a s) a.payload ≡ live_answer taken a (Some s)
  answer_held = elim (cases_Bool (has taken (piece_name a s) s.number)) [
    | inl again ↦ rw (here, again) refl
    | inr new ↦ elim (cases_Bool (list_all (has taken (piece_name a s)) (other_numbers s))) [
      | inl all ↦ rw (here, new, others, all) (ap Whole (joins new all))
      | inr waits ↦ rw (here, new, others, waits) refl
    ]
  ]

  pub answers : held_answer pieces (piece_name a s) a.payload ≡ live_answer taken a a.segmentation
  answers = answer_held ∙ ap (live_answer taken a) (sym known.segmentation_is)

  -- what has arrived with it
  has-all : (n : ℕ) → has (taken ++ a ∷ []) (piece_name a s) n ≡ (has taken (piece_name a s) n || (n == s.number))
  has-all n = has-with taken a (piece_name a s) n ∙ ap (λ (b : Bool). has taken (piece_name a s) n || b) (is-own n)

  abbrev pub Keeps : ℕ → Type 0
  Keeps n = held_with pieces (piece_name a s) a.payload (with_number (piece_name a s) n) ≡ kept_of (taken ++ a ∷ [])
      (with_number (piece_name a s) n)

  keeps_again : has taken (piece_name a s) s.number ≡ true → (n : ℕ) → 1 ≤ n → n ≤ s.count → Keeps n
  keeps_again again n least most =
      let each : (k : ℕ) → has (taken ++ a ∷ []) (piece_name a s) k ≡ has taken (piece_name a s) k = λ k.
      has-all k ∙ elim (cases_Bool (k == s.number)) [
        | inl own ↦
            let was : has taken (piece_name a s) k ≡ true = ap (has taken (piece_name a s)) (eqb-true k s.number own) ∙ again in
            rw was refl
        | inr other ↦ rw other (or-false (has taken (piece_name a s) k))
      ] in
      let same_first : first (taken ++ a ∷ []) (piece_name a s) n ≡ first taken (piece_name a s) n =
      elim (cases_Bool (n == s.number)) [
        | inl own ↦
            let was : is_some (first taken (piece_name a s) n) ≡ true =
            has-first taken (piece_name a s) n ∙ ap (has taken (piece_name a s)) (eqb-true n s.number own) ∙ again in
            first-with taken a (piece_name a s) n
            ∙ some_or (first taken (piece_name a s) n) (cond (is (piece_name a s) n a) (Some a) None) was
        | inr other ↦ first-other n other
      ] in
      rw (here, again) (known.keeps n least most
      ∙ sym (kept_same (taken ++ a ∷ []) taken (with_number (piece_name a s) n) same_first each))

  keeps_whole : has taken (piece_name a s) s.number ≡ false → list_all (has taken (piece_name a s)) (other_numbers s) ≡ true
      → (n : ℕ) → 1 ≤ n → n ≤ s.count → Keeps n
  keeps_whole new all n least most =
      let each : (k : ℕ) → 1 ≤ k → k ≤ s.count → has (taken ++ a ∷ []) (piece_name a s) k ≡ true = λ k first_one last_one.
      has-all k ∙ elim (cases_Bool (k == s.number)) [
        | inl own ↦ or_right (has taken (piece_name a s) k) (k == s.number) own
        | inr other ↦ or_left (has taken (piece_name a s) k) (k == s.number)
            (all_in (has taken (piece_name a s)) k (other_numbers s) all (others-in s k first_one last_one (eqb-false k
            s.number other)))
      ] in
      let whole : was_whole (taken ++ a ∷ []) (piece_name a s) ≡ true = in_all (has (taken ++ a ∷ []) (piece_name a s))
      (range_with_len 1 s.count) (λ k there.
      let within = in_range k 1 s.count there in
      each k within.0 (omega arith)) in
      let some : is_some (first (taken ++ a ∷ []) (piece_name a s) n) ≡ true = has-first (taken ++ a ∷ [])
      (piece_name a s) n ∙ each n least most in
      let is_number : is_number_of (piece_name a s) (with_number (piece_name a s) n) ≡ true =
      and_from _ _ (and_from _ _ (same-self told (with_number (piece_name a s) n)) (le-leb 1 n least)) (le-leb n s.count most) in
      rw (here, new, others, all, is_number, whole) (sym (alone_kept (first (taken ++ a ∷ []) (piece_name a s) n) some))

  keeps_waits : has taken (piece_name a s) s.number ≡ false → list_all (has taken (piece_name a s)) (other_numbers s) ≡ false
      → (n : ℕ) → 1 ≤ n → n ≤ s.count → Keeps n
  keeps_waits new waits n least most =
      let lost = not_all_in (has taken (piece_name a s)) (other_numbers s) waits in
      let other_lost = in-others s lost.0 lost.1 in
      let fails : has (taken ++ a ∷ []) (piece_name a s) lost.0 ≡ false =
      has-all lost.0 ∙ or_from _ _ lost.2 (ne_eqb lost.0 s.number other_lost.2) in
      let unwhole : was_whole (taken ++ a ∷ []) (piece_name a s) ≡ false =
      not_all (has (taken ++ a ∷ []) (piece_name a s)) lost.0 (range_with_len 1 s.count)
      (range_has lost.0 1 s.count other_lost.0 (let bound = other_lost.1 in omega arith)) fails in
      elim (cases_Bool (n == s.number)) [
        | inl own ↦
            let at : n ≡ s.number = eqb-true n s.number own in
            let same : same_piece (with_number (piece_name a s) n) (piece_name a s) ≡ true =
            ap (λ (k : ℕ). same_piece (with_number (piece_name a s) k) (piece_name a s)) at ∙ same-self told (piece_name a s) in
            let first_is : first (taken ++ a ∷ []) (piece_name a s) n ≡ Some a =
            ap (first (taken ++ a ∷ []) (piece_name a s)) at ∙ first-own new in
            rw (here, new, others, waits, same, unwhole, first_is) refl
        | inr other ↦
            let differs : same_piece (with_number (piece_name a s) n) (piece_name a s) ≡ false =
            sym (is-named (piece_name a s) n a s known.segmentation_is) ∙ is-own n ∙ other in
            rw (here, new, others, waits, differs, unwhole, first-other n other)
            (known.keeps n least most ∙ ap (λ (b : Bool). option_map (kept_piece b) (first taken (piece_name a s) n))
            (not_whole new))
      ]

  pub keeps_file : (n : ℕ) → 1 ≤ n → n ≤ s.count → Keeps n
  keeps_file n least most = elim (cases_Bool (has taken (piece_name a s) s.number)) [
    | inl again ↦ keeps_again again n least most
    | inr new ↦ elim (cases_Bool (list_all (has taken (piece_name a s)) (other_numbers s))) [
      | inl all ↦ keeps_whole new all n least most
      | inr waits ↦ keeps_waits new waits n least most
    ]
  ]
