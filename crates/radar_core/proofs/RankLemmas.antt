-- Which offsets a bitmap names, counted byte by byte.
use Rattle.std.proofs.Common.{◌≡◌, ℕ, zero, suc, ◌+◌, ◌-◌, ◌*◌, ◌/◌, ◌%◌, ◌^◌, ◌<◌, ◌≤◌, Bool, true, false, ◌==◌, ◌||◌, cond, List, ◌∷◌, ◌++◌, length, slice_index, slice_get, Some, refl, sym, ap, ◌∙◌, arith, inl, inr, ◌⊎◌, zero-add}
use Rattle.std.specs.Int.{bit_at}
use Rattle.std.specs.List.{filter, count_by, range_with_len}
use Rattle.std.proofs.lemmas.Bool.{cases_lt, true≢false, cond-true, cond-false, eq-eqb, ne_eqb}
use Rattle.std.proofs.lemmas.List.Sums.{sum_by-append, length-filter}
use Rattle.std.proofs.lemmas.List.Elements.{filter-append}
use lib.Count.{ones, ones_in}
use Rattle.std.proofs.Math.Nat.{pow-suc, div-div-eq-div-mul}
use Rattle.std.specs.Int.RustNames.{count_ones}
use Rattle.std.proofs.lemmas.Nat.{ones_cat, ones-le}
use Rattle.bit_fields.specs.Bits.{bit as one_if}
use Rattle.list_members.specs.ListMembers.{slice_get_after}
use Rattle.list_members.specs.Ranges.{range_split}
use Rattle.radar_core.specs.Blanks.{is_named, named_offsets}
use Rattle.radar_core.specs.Ranks.{names_at, ones_below, rank_of}

-- one number more
count_more : (p : ℕ → Bool) (n : ℕ) → count_by p (range_with_len 0 (n + 1)) ≡ count_by p (range_with_len 0 n) + cond (p n) 1 0
count_more p n =
    ap (count_by p) (range_split 0 n 1) ∙ sum_by-append (λ x. cond (p x) 1 0) (range_with_len 0 n) (range_with_len (0 + n) 1)
    ∙ ap (λ m. count_by p (range_with_len 0 n) + m) (ap (λ k. 0 + cond (p k) 1 0) (zero-add n) ∙ zero-add (cond (p n) 1 0))

pub rank_of-more : (bitmap : List ℕ) (offset : ℕ) → rank_of bitmap (offset + 1) ≡ rank_of bitmap offset + cond (is_named bitmap offset) 1 0
unfolding rank_of
rank_of-more bitmap offset = count_more (is_named bitmap) offset

pub ones_below-more : (byte place : ℕ) → ones_below byte (place + 1) ≡ ones_below byte place + cond (bit_at byte place == 1) 1 0
unfolding ones_below
ones_below-more byte place = count_more (λ bit. bit_at byte bit == 1) place

ones_below-suc : (byte place : ℕ) → ones_below byte (suc place) ≡ ones_below byte place + cond (bit_at byte place == 1) 1 0
ones_below-suc byte place = let next : suc place ≡ place + 1 = omega arith in ap (ones_below byte) next ∙ ones_below-more byte place

-- one bit further in a byte
zero_not_one : (n : ℕ) → n ≡ 0 → n ≡ 1 → ⊥
zero_not_one n zeros one = absurd (omega arith)

pub more_set : (byte bit : ℕ) → bit_at byte bit ≡ 1 → ones_below byte (bit + 1) ≡ ones_below byte bit + 1
more_set byte bit set =
    ones_below-more byte bit ∙ ap (λ n. ones_below byte bit + n) (cond-true {A = ℕ} (bit_at byte bit == 1) 1 0 (eq-eqb (bit_at byte bit) 1 set))

pub more_unset : (byte bit : ℕ) → (bit_at byte bit ≡ 1 → ⊥) → ones_below byte (bit + 1) ≡ ones_below byte bit
more_unset byte bit unset =
    ones_below-more byte bit ∙ ap (λ n. ones_below byte bit + n) (cond-false {A = ℕ} (bit_at byte bit == 1) 1 0 (ne_eqb (bit_at byte bit) 1 unset))
    ∙ omega arith

pub ones_below-zero : (byte : ℕ) → ones_below byte 0 ≡ 0
unfolding ones_below
ones_below-zero byte = refl

pub rank_of-zero : (bitmap : List ℕ) → rank_of bitmap 0 ≡ 0
unfolding rank_of
rank_of-zero bitmap = refl

pub rank_of-all : (bitmap : List ℕ) → length (named_offsets bitmap) ≡ rank_of bitmap 117
unfolding rank_of named_offsets
rank_of-all bitmap = length-filter (is_named bitmap) (range_with_len 0 117)

-- the number of its rank
nth_kept : (p : ℕ → Bool) (xs ys : List ℕ) (x : ℕ) → p x ≡ true → slice_get (filter p (xs ++ x ∷ ys)) (count_by p xs) ≡ Some x
nth_kept p xs ys x kept =
    ap (λ (b : List ℕ). slice_get b (count_by p xs))
    (filter-append p xs (x ∷ ys) ∙ ap (λ (b : List ℕ). filter p xs ++ b) (cond-true (p x) (x ∷ filter p ys) (filter p ys) kept))
    ∙ ap (λ n. slice_get (filter p xs ++ x ∷ filter p ys) n) (sym (length-filter p xs))
    ∙ slice_get_after (filter p xs) (filter p ys) x

range_at : (n k : ℕ) → k < n → range_with_len 0 n ≡ range_with_len 0 k ++ k ∷ range_with_len (k + 1) (n - k - 1)
range_at n k inside =
    ap (λ m. range_with_len 0 m) (omega arith) ∙ range_split 0 k (suc (n - k - 1))
    ∙ ap (λ m. range_with_len 0 k ++ m ∷ range_with_len (m + 1) (n - k - 1)) (zero-add k)

pub named_at_rank :
    (bitmap : List ℕ) (offset : ℕ) → offset < 117 → is_named bitmap offset ≡ true →
    slice_get (named_offsets bitmap) (rank_of bitmap offset) ≡ Some offset
unfolding named_offsets rank_of
named_at_rank bitmap offset inside named =
    let at : (n : ℕ) → offset < n → slice_get (filter (is_named bitmap) (range_with_len 0 n)) (count_by (is_named bitmap) (range_with_len 0 offset)) ≡ Some offset
    = λ n below.
    ap (λ (b : List ℕ). slice_get (filter (is_named bitmap) b) (count_by (is_named bitmap) (range_with_len 0 offset))) (range_at n offset below)
    ∙ nth_kept (is_named bitmap) (range_with_len 0 offset) (range_with_len (offset + 1) (n - offset - 1)) offset named
    in
    at 117 inside

-- the numbers below 8, one by one
pub below_eight : (P : ℕ → Type 0) → P 0 → P 1 → P 2 → P 3 → P 4 → P 5 → P 6 → P 7 → (n : ℕ) → n < 8 → P n
below_eight P a b c d e f g h zero small = a
below_eight P a b c d e f g h (suc zero) small = b
below_eight P a b c d e f g h (suc (suc zero)) small = c
below_eight P a b c d e f g h (suc (suc (suc zero))) small = d
below_eight P a b c d e f g h (suc (suc (suc (suc zero)))) small = e
below_eight P a b c d e f g h (suc (suc (suc (suc (suc zero))))) small = f
below_eight P a b c d e f g h (suc (suc (suc (suc (suc (suc zero)))))) small = g
below_eight P a b c d e f g h (suc (suc (suc (suc (suc (suc (suc zero))))))) small = h
below_eight P a b c d e f g h (suc (suc (suc (suc (suc (suc (suc (suc n)))))))) small = absurd (omega arith)

cases_low : (place bit : ℕ) → (8 * place + bit < 3) ⊎ (3 ≤ 8 * place + bit)
cases_low place bit = cases_lt (8 * place + bit) 3

-- the bits of the first byte, from bit 3 on, each named or not; below it none is set
first_bits : (bitmap : List ℕ) (bit : ℕ) → bit < 8 → 3 ≤ bit → is_named bitmap (bit - 3) ≡ (bit_at (names_at bitmap 0) bit == 1)
first_bits bitmap =
    below_eight (λ bit. 3 ≤ bit → is_named bitmap (bit - 3) ≡ (bit_at (names_at bitmap 0) bit == 1)) (λ low. absurd (omega arith))
    (λ low. absurd (omega arith)) (λ low. absurd (omega arith)) (λ low. sym (eq-eqb (bit_at (names_at bitmap 0) 3) 1 (omega arith)))
    (λ low. ap (λ n. n == 1) (omega arith)) (λ low. ap (λ n. n == 1) (omega arith)) (λ low. ap (λ n. n == 1) (omega arith))
    (λ low. ap (λ n. n == 1) (omega arith))

unset_low : (bitmap : List ℕ) (bit : ℕ) → bit < 8 → bit < 3 → bit_at (names_at bitmap 0) bit ≡ 0
unset_low bitmap =
    below_eight (λ bit. bit < 3 → bit_at (names_at bitmap 0) bit ≡ 0) (λ low. omega arith) (λ low. omega arith) (λ low. omega arith)
    (λ low. absurd (omega arith)) (λ low. absurd (omega arith)) (λ low. absurd (omega arith)) (λ low. absurd (omega arith))
    (λ low. absurd (omega arith))

pub or_skip : (b c : Bool) → b ≡ false → (b || c) ≡ c
or_skip true c e = absurd (true≢false e)
or_skip false c e = refl

-- an offset beside the base is named by its bit
pub named_by : (bitmap : List ℕ) (offset place bit : ℕ) → (offset ≡ 0 → ⊥) → (offset + 3) / 8 ≡ place → (offset + 3) % 8 ≡ bit
    → is_named bitmap offset ≡ (bit_at (slice_index bitmap place) bit == 1)
named_by bitmap offset place bit further byte_is bit_is =
    or_skip (offset == 0) (bit_at (slice_index bitmap ((offset + 3) / 8)) ((offset + 3) % 8) == 1) (ne_eqb offset 0 further)
    ∙ ap (λ n. bit_at (slice_index bitmap n) ((offset + 3) % 8) == 1) byte_is
    ∙ ap (λ n. bit_at (slice_index bitmap place) n == 1) bit_is

-- the bits of a later byte
names_at-later : (bitmap : List ℕ) (place : ℕ) → names_at bitmap (suc place) ≡ slice_index bitmap (suc place)
names_at-later bitmap place =
    cond-false (suc place == 0) (slice_index bitmap (suc place) / 16 * 16 + 8) (slice_index bitmap (suc place)) (ne_eqb (suc place) 0 (λ zeros. absurd (omega arith)))

later_bits :
    (bitmap : List ℕ) (place bit : ℕ) → bit < 8 → is_named bitmap (8 * suc place + bit - 3) ≡ (bit_at (names_at bitmap (suc place)) bit == 1)
later_bits bitmap place bit small =
    named_by bitmap (8 * suc place + bit - 3) (suc place) bit (λ zeros. absurd (omega arith)) (omega arith) (omega arith)
    ∙ ap (λ n. bit_at n bit == 1) (sym (names_at-later bitmap place))

pub bits_named :
    (bitmap : List ℕ) (place bit : ℕ) → bit < 8 → 3 ≤ 8 * place + bit →
    is_named bitmap (8 * place + bit - 3) ≡ (bit_at (names_at bitmap place) bit == 1)
bits_named bitmap zero bit small low = ap (λ n. is_named bitmap n) (omega arith) ∙ first_bits bitmap bit small (omega arith)
bits_named bitmap (suc place) bit small low = later_bits bitmap place bit small

-- the rank of a bit's offset is that of the byte, and how many bits are set below it
pub rank_of-bit :
    (bitmap : List ℕ) (place bit : ℕ) → bit ≤ 8 →
    rank_of bitmap (8 * place + bit - 3) ≡ rank_of bitmap (8 * place - 3) + ones_below (names_at bitmap place) bit
rank_of-bit bitmap place zero small =
    let same : 8 * place + 0 - 3 ≡ 8 * place - 3 = omega arith in
    ap (rank_of bitmap) same ∙ omega (arith, ones_below-zero (names_at bitmap place))
rank_of-bit bitmap place (suc bit) small =
    let below = rank_of-bit bitmap place bit (omega arith) in
    let more : ones_below (names_at bitmap place) (suc bit) ≡ ones_below (names_at bitmap place) bit + one_if (bit_at (names_at bitmap place) bit == 1) =
    ones_below-suc (names_at bitmap place) bit
    in
    elim (cases_low place bit) [
      | inl low ↦
          let zero_is : place ≡ 0 = omega arith in
          let unset : bit_at (names_at bitmap place) bit ≡ 0 =
          ap (λ n. bit_at (names_at bitmap n) bit) zero_is ∙ unset_low bitmap bit (omega arith) (omega arith)
          in
          let same : 8 * place + suc bit - 3 ≡ 8 * place + bit - 3 = omega arith in
          let next : suc bit ≡ bit + 1 = omega arith in
          let none = more_unset (names_at bitmap place) bit (zero_not_one _ unset) in
          ap (rank_of bitmap) same ∙ below
          ∙ ap (λ n. rank_of bitmap (8 * place - 3) + n) (sym none ∙ ap (ones_below (names_at bitmap place)) (sym next))
      | inr high ↦
          let named : one_if (is_named bitmap (8 * place + bit - 3)) ≡ one_if (bit_at (names_at bitmap place) bit == 1) =
          ap one_if (bits_named bitmap place bit (omega arith) high)
          in
          let next : 8 * place + suc bit - 3 ≡ (8 * place + bit - 3) + 1 = omega arith in
          ap (rank_of bitmap) next ∙ rank_of-more bitmap (8 * place + bit - 3) ∙ omega (arith, more, named, below)
    ]

-- how many bits of a byte are set
ones_zero : ones 0 ≡ 0
unfolding ones ones_in
ones_zero = refl

ones_one : ones 1 ≡ 1
unfolding ones ones_in
ones_one = refl

ones_bit : (n : ℕ) → n < 2 → ones n ≡ cond (n == 1) 1 0
ones_bit zero small = ones_zero ∙ sym (cond-false (zero == 1) 1 0 (ne_eqb zero 1 (λ set. absurd (omega arith))))
ones_bit (suc zero) small = ones_one ∙ sym (cond-true (suc zero == 1) 1 0 (eq-eqb (suc zero) 1 refl))
ones_bit (suc (suc n)) small = absurd (omega arith)

ones_half : (n : ℕ) → ones n ≡ ones (n / 2) + cond (n % 2 == 1) 1 0
ones_half n =
    let halves : n ≡ n / 2 * 2 ^ 1 + n % 2 = omega arith in
    ap ones halves ∙ ones_cat 1 (n / 2) (n % 2) (omega arith) ∙ ap (λ m. ones (n / 2) + m) (ones_bit (n % 2) (omega arith))

ones_split : (n k : ℕ) → ones n ≡ ones (n / 2 ^ k) + ones_below n k
ones_split n zero =
    let same : n ≡ n / 2 ^ 0 = omega arith in ap ones same ∙ omega (arith, ones_below-zero n)
ones_split n (suc k) =
    let halves : n / 2 ^ suc k ≡ n / 2 ^ k / 2 = ap (λ m. n / m) (pow-suc 2 k) ∙ sym (div-div-eq-div-mul n (2 ^ k) 2) in
    ones_split n k ∙ omega (arith, ones_half (n / 2 ^ k), ones_below-suc n k, ap ones halves)

pub count_ones-byte : (n : ℕ) → n < 256 → count_ones n ≡ ones_below n 8
unfolding count_ones
count_ones-byte n fits =
    let none : n / 2 ^ 8 ≡ 0 = omega arith in ones_split n 8 ∙ omega (arith, ap ones none, ones_zero)

pub count_ones-le : (n : ℕ) → n < 256 → count_ones n ≤ 8
unfolding count_ones
count_ones-le n fits = ones-le 8 n fits

-- what the code asks: one byte further, and one bit further
pub rank_of-byte :
    (bitmap : List ℕ) (place names : ℕ) → names ≡ names_at bitmap place → names < 256 →
    rank_of bitmap (8 * (place + 1) - 3) ≡ rank_of bitmap (8 * place - 3) + count_ones names
rank_of-byte bitmap place names names_are fits =
    let next : 8 * (place + 1) - 3 ≡ 8 * place + 8 - 3 = omega arith in
    ap (rank_of bitmap) next ∙ rank_of-bit bitmap place 8 (omega arith)
    ∙ ap (λ n. rank_of bitmap (8 * place - 3) + n) (ap (λ n. ones_below n 8) (sym names_are) ∙ sym (count_ones-byte names fits))

pub rank_of-none : (bitmap : List ℕ) (place : ℕ) → place ≡ 0 → rank_of bitmap (8 * place - 3) ≡ 0
rank_of-none bitmap place none =
    let same : 8 * place - 3 ≡ 0 = omega arith in ap (rank_of bitmap) same ∙ rank_of-zero bitmap

pub rank_of-end : (bitmap : List ℕ) (place : ℕ) → place ≡ 15 → rank_of bitmap (8 * place - 3) ≡ length (named_offsets bitmap)
rank_of-end bitmap place end =
    let same : 8 * place - 3 ≡ 117 = omega arith in ap (rank_of bitmap) same ∙ sym (rank_of-all bitmap)

-- the offset of a bit that is set
pub record IsFound (bitmap : List ℕ) (rank offset : ℕ) : Type 0 where
  pub value : slice_get (named_offsets bitmap) rank ≡ Some offset
  pub fits : offset < 117

pub is_above : (bitmap : List ℕ) (place bit : ℕ) → bit < 8 → bit_at (names_at bitmap place) bit ≡ 1 → 3 ≤ 8 * place + bit
is_above bitmap zero bit small set =
    elim (cases_lt bit 3) [
      | inl low ↦ let unset = unset_low bitmap bit small low in absurd (omega (arith, unset, set))
      | inr high ↦ omega arith
    ]
is_above bitmap (suc place) bit small set = omega arith

pub found :
    (bitmap : List ℕ) (place names bit rank left : ℕ) → names ≡ names_at bitmap place → place < 15 → bit < 8 → bit_at names bit ≡ 1 →
    ones_below names bit ≡ left → left + rank_of bitmap (8 * place - 3) ≡ rank →
    IsFound bitmap rank (8 * place + bit - 3)
found bitmap place names bit rank left names_are inside small set left_is rank_is =
    let is_set : bit_at (names_at bitmap place) bit ≡ 1 = ap (λ n. bit_at n bit) (sym names_are) ∙ set in
    let below_is : ones_below (names_at bitmap place) bit ≡ left = ap (λ n. ones_below n bit) (sym names_are) ∙ left_is in
    let above = is_above bitmap place bit small is_set in
    let offset : ℕ = 8 * place + bit - 3 in
    let named : is_named bitmap offset ≡ true =
    bits_named bitmap place bit small above ∙ eq-eqb (bit_at (names_at bitmap place) bit) 1 is_set
    in
    let at : rank_of bitmap offset ≡ rank = rank_of-bit bitmap place bit (omega arith) ∙ omega (arith, below_is, rank_is) in
    let below : offset < 117 = omega arith in
    record { value = ap (slice_get (named_offsets bitmap)) (sym at) ∙ named_at_rank bitmap offset below named; fits = below }

-- the bit is one of an offset
pub above_by : (bitmap : List ℕ) (place names bit : ℕ) → names ≡ names_at bitmap place → bit < 8 → bit_at names bit ≡ 1 → 3 ≤ 8 * place + bit
above_by bitmap place names bit names_are small set = is_above bitmap place bit small (ap (λ n. bit_at n bit) (sym names_are) ∙ set)
