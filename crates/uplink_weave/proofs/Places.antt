-- The blocks of a frame by their places.
use Rattle.std.proofs.Common.{◌≡◌, ℕ, ◌+◌, ◌*◌, ◌/◌, ◌%◌, ◌<◌, List, length, get_or, sym, ◌∙◌, ap, subst, arith, inl, inr}
use Rattle.std.proofs.lemmas.Bool.{cases_eq}
use Rattle.std.proofs.lemmas.List.{ext_get_or}
use Rattle.std.proofs.lemmas.List.FromFn.{length-map-range_with_len, get_or-map-range_with_len}
use Rattle.uplink_weave.specs.Woven.{block}

pub length-block : (r : ℕ) (air : List ℕ) → length (block r air) ≡ 92
unfolding block
length-block r air = length-map-range_with_len (λ (k : ℕ). get_or air (6 * k + r) 0) 0 92

pub get_or-block : (r : ℕ) (air : List ℕ) (k : ℕ) → k < 92 → get_or (block r air) k 0 ≡ get_or air (6 * k + r) 0
unfolding block
get_or-block r air k h = get_or-map-range_with_len (λ (i : ℕ). get_or air (6 * i + r) 0) 0 92 k k 0 h (omega arith)

-- a word with the bytes of a block is the block
pub is_block :
    (r : ℕ) (air word : List ℕ) → length word ≡ 92 → ((k : ℕ) → k < 92 → get_or word k 0 ≡ get_or air (6 * k + r) 0)
    → word ≡ block r air
is_block r air word long bytes =
    ext_get_or 0 word (block r air) (long ∙ sym (length-block r air))
    (λ i h. let inside : i < 92 = omega arith in bytes i inside ∙ sym (get_or-block r air i inside))

-- frames with the same bytes at the places of a block have the same block
pub same_block :
    (r : ℕ) (air other : List ℕ) → ((k : ℕ) → k < 92 → get_or air (6 * k + r) 0 ≡ get_or other (6 * k + r) 0)
    → block r air ≡ block r other
same_block r air other bytes =
    is_block r other (block r air) (length-block r air) (λ k h. get_or-block r air k h ∙ bytes k h)

-- frames with the same blocks are the same
pub same_frame :
    (air other : List ℕ) → length air ≡ 552 → length other ≡ 552 → ((r : ℕ) → r < 6 → block r air ≡ block r other)
    → air ≡ other
same_frame air other long long' blocks =
    ext_get_or 0 air other (long ∙ sym long')
    (λ i h.
    let k : ℕ = i / 6 in
    let r : ℕ = i % 6 in
    let place : 6 * (i / 6) + i % 6 ≡ i = omega arith in
    let low : i / 6 < 92 = omega arith in
    ap (λ (j : ℕ). get_or air j 0) (sym place)
    ∙ sym (get_or-block (i % 6) air (i / 6) low)
    ∙ ap (λ (b : List ℕ). get_or b (i / 6) 0) (blocks (i % 6) (omega arith))
    ∙ get_or-block (i % 6) other (i / 6) low
    ∙ ap (λ (j : ℕ). get_or other j 0) place)

-- what holds of all numbers below and of one more
pub one_more : (P : ℕ → Type 0) (n : ℕ) → ((r : ℕ) → r < n → P r) → P n → (r : ℕ) → r < n + 1 → P r
one_more P n before last r h = elim (cases_eq r n) [
  | inl same ↦ subst P (sym same) last
  | inr other ↦ before r (omega arith)
]
