-- A joiner stands for the arrivals with segment fields alone: it holds nothing of the others.
use Rattle.std.proofs.Common.{◌≡◌, ℕ, ◌≤◌, Bool, true, false, cond, List, length, filter, Option, Some, None, is_some, refl, sym, ap, ◌∙◌, arith}
use Rattle.std.specs.List.{range_with_len, sum_by}
use Rattle.std.specs.Option.{option_map}
use Rattle.std.proofs.lemmas.List.Sums.{sum_by-le-sum_by}
use Rattle.list_members.specs.ListMembers.{length_ones}
use Rattle.list_members.specs.Ranges.{any_filter, find_filter, list_all_same}
use Rattle.apdu_core.specs.declared.apdu.Seg.{Seg}
use Rattle.segment_core.specs.Arrival.{Arrival, first_piece, has_piece, is_piece}
use Rattle.segment_core.specs.Kept.{arrival_named, seg_of_name, kept_of, kept_piece, was_whole}
use Rattle.segment_core.specs.Store.{StandsFor, Store}
use Rattle.segment_core.specs.declared.piece_name.PieceName.{PieceName}
use Rattle.receiver_core.proofs.Weights.{sum_of_filter}

abbrev pub is_segment : Arrival → Bool
is_segment a = is_some a.segmentation

segment_by : (a : Arrival) (s : Seg) (n : ℕ) (b : Arrival) (o : Option Seg) → is_piece a s n b o ≡ true → is_some o ≡ true
segment_by a s n b None is = absurd (cc)
segment_by a s n b (Some t) is = refl

module _ (taken : List Arrival) where
  first_same : (a : Arrival) (s : Seg) (n : ℕ) → first_piece (filter is_segment taken) a s n ≡ first_piece taken a s n
  first_same a s n = find_filter (λ b. is_piece a s n b b.segmentation) is_segment
      (λ b is. segment_by a s n b b.segmentation is) taken

  has_same : (a : Arrival) (s : Seg) (n : ℕ) → has_piece (filter is_segment taken) a s n ≡ has_piece taken a s n
  has_same a s n = any_filter (λ b. is_piece a s n b b.segmentation) is_segment
      (λ b is. segment_by a s n b b.segmentation is) taken

  kept_same : (name : PieceName) → kept_of taken name ≡ kept_of (filter is_segment taken) name
  kept_same name =
      let a = arrival_named name in
      let s = seg_of_name name in
      let first = first_same a s name.number in
      let whole : was_whole (filter is_segment taken) name ≡ was_whole taken name =
      list_all_same (has_piece (filter is_segment taken) a s) (has_piece taken a s) (range_with_len 1 name.count)
      (λ n there. has_same a s n) in
      sym (ap (λ (b : Bool). option_map (kept_piece b) (first_piece (filter is_segment taken) a s name.number)) whole
      ∙ ap (option_map (kept_piece (was_whole taken name))) first)

  pub stands_for_segments : (store : Store) → StandsFor store taken → StandsFor store (filter is_segment taken)
  stands_for_segments store stands = record {
    keeps = λ name numbered live. stands.keeps name numbered live ∙ kept_same name;
    numbered = stands.numbered;
  }

tests-turned : (p q : Bool) → cond q (cond p 1 0) 0 ≤ cond p (cond q 1 0) 0
tests-turned true true = omega arith
tests-turned true false = omega arith
tests-turned false true = omega arith
tests-turned false false = omega arith

-- how many pass both tests
pub length_of_both : {A : Type 0} (p q : A → Bool) (xs : List A)
    → length (filter p (filter q xs)) ≤ sum_by (λ x. cond (p x) (cond (q x) 1 0) 0) xs
length_of_both p q xs =
    let ones = length_ones (filter p (filter q xs)) in
    let first = sum_of_filter (λ x. 1) p (filter q xs) in
    let both = sum_of_filter (λ x. cond (p x) 1 0) q xs in
    let less = sum_by-le-sum_by (λ x. cond (q x) (cond (p x) 1 0) 0) (λ x. cond (p x) (cond (q x) 1 0) 0) xs
    (λ x. tests-turned (p x) (q x)) in
    omega (arith, ones, first, both, less)
