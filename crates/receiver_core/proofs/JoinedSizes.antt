-- A joined payload has no more bytes than the arrivals of its file.
use Rattle.std.proofs.Common.{◌≡◌, ℕ, zero, suc, ◌+◌, ◌<◌, ◌≤◌, Bool, true, false, cond, ◌==◌, List, [], ◌∷◌, length, Option, Some, None, refl, inl, inr, arith}
use Rattle.std.specs.List.{sum_by, range_with_len}
use Rattle.std.proofs.lemmas.Bool.{cases_Bool, cond-true, cond-false, eqb-true, ne_eqb}
use Rattle.std.proofs.lemmas.List.Concat.{length-flat_map}
use Rattle.std.proofs.lemmas.List.Sums.{sum_by-cons}
use Rattle.apdu_core.specs.declared.apdu.Seg.{Seg}
use Rattle.segment_core.specs.Arrival.{Arrival, bytes_of_piece, first_piece, is_piece, joined_payload, same_file}
use Rattle.receiver_core.proofs.Weights.{sum_below_two, sum_none}

-- an arrival of this file
abbrev pub is_of_file : Arrival → Seg → Arrival → Option Seg → Bool
is_of_file a s b None = false
is_of_file a s b (Some t) = same_file a s b t

-- a number stands once among numbers in a row
once_at_most : (k first count size : ℕ) → k < first
    → sum_by (λ n. cond (k == n) size 0) (range_with_len first count) ≡ 0
once_at_most k first zero size below = refl
once_at_most k first (suc count) size below =
    let here = cond-false (k == first) size 0 (ne_eqb k first (omega arith)) in
    let more = once_at_most k (first + 1) count size (omega arith) in
    omega (arith, here, more, sum_by-cons (λ n. cond (k == n) size 0) first (range_with_len (first + 1) count))

once : (k first count size : ℕ) → sum_by (λ n. cond (k == n) size 0) (range_with_len first count) ≤ size
once k first zero size = omega arith
once k first (suc count) size =
    let whole = sum_by-cons (λ n. cond (k == n) size 0) first (range_with_len (first + 1) count) in
    elim (cases_Bool (k == first)) [
      | inl same ↦
          let here = cond-true (k == first) size 0 same in
          let at = eqb-true k first same in
          let more = once_at_most k (first + 1) count size (omega arith) in
          omega (arith, whole, here, more)
      | inr other ↦
          let here = cond-false (k == first) size 0 other in
          let more = once k (first + 1) count size in
          omega (arith, whole, here, more)
    ]

-- an arrival is a piece of one number at most
once_of_file : (a : Arrival) (s : Seg) (b : Arrival) (o : Option Seg) (size first count : ℕ)
    → sum_by (λ n. cond (is_piece a s n b o) size 0) (range_with_len first count) ≤ cond (is_of_file a s b o) size 0
once_of_file a s b None size first count =
    let none = sum_none (λ n. cond (is_piece a s n b None) size 0) (range_with_len first count) (λ n. refl) in
    omega (arith, none)
once_of_file a s b (Some t) size first count = elim (cases_Bool (same_file a s b t)) [
  | inl same ↦ rw same (once t.number first count size)
  | inr other ↦
      let none = sum_none (λ n. cond (is_piece a s n b (Some t)) size 0) (range_with_len first count)
      (λ n. rw other refl) in
      omega (arith, none)
]

piece_size : (p : Bool) (b : Arrival) (o : Option Arrival)
    → length (bytes_of_piece (cond p (Some b) o)) ≤ cond p (length b.payload) 0 + length (bytes_of_piece o)
piece_size true b o = omega arith
piece_size false b o = omega arith

abbrev size_at : Arrival → Seg → List Arrival → ℕ → ℕ
size_at a s came n = length (bytes_of_piece (first_piece came a s n))

joined_sum : (a : Arrival) (s : Seg) (first count : ℕ) (came : List Arrival)
    → sum_by (size_at a s came) (range_with_len first count)
    ≤ sum_by (λ b. cond (is_of_file a s b b.segmentation) (length b.payload) 0) came
joined_sum a s first count [] =
    let none = sum_none (size_at a s []) (range_with_len first count) (λ n. refl) in
    omega (arith, none)
joined_sum a s first count (b ∷ came) =
    let numbers = range_with_len first count in
    let split = sum_below_two (size_at a s (b ∷ came)) (λ n. cond (is_piece a s n b b.segmentation) (length b.payload) 0)
    (size_at a s came) numbers
    (λ n. piece_size (is_piece a s n b b.segmentation) b (first_piece came a s n)) in
    let one = once_of_file a s b b.segmentation (length b.payload) first count in
    let more = joined_sum a s first count came in
    let whole = sum_by-cons (λ c. cond (is_of_file a s c c.segmentation) (length c.payload) 0) b came in
    omega (arith, split, one, more, whole)

pub joined_size : (a : Arrival) (s : Seg) (came : List Arrival) → length (joined_payload came a s)
    ≤ sum_by (λ b. cond (is_of_file a s b b.segmentation) (length b.payload) 0) came
joined_size a s came =
    let size = length-flat_map (λ n. bytes_of_piece (first_piece came a s n)) (range_with_len 1 s.count) in
    let sum = joined_sum a s 1 s.count came in
    omega (arith, size, sum)
