-- The empty record of a group reads back.
use Rattle.std.proofs.Common.{◌≡◌, ℕ, zero, suc, ◌+◌, ◌-◌, ◌*◌, ◌/◌, ◌%◌, ◌<◌, ◌≤◌, Bool, false, ◌==◌, List, [], ◌∷◌, length, get_or, map, Ok, refl, sym, ap, ◌∙◌, arith, inl, inr}
use Rattle.std.specs.Int.{bit_at}
use Rattle.std.specs.List.{AllByRecursion, filter, list_any, range_with_len}
use Rattle.std.specs.List.Sorted.{IsStrictlyIncreasing}
use Rattle.std.proofs.lemmas.Bool.{cond-true, cond-false, cases_eq, cases_lt, eq-eqb, ne_eqb, or_left, le-ltb, lt-leb}
use Rattle.std.proofs.lemmas.List.{take_all, length-append, length-map, get_or-map, get_or_past}
use Rattle.std.proofs.lemmas.List.Elements.{filter_agree}
use Rattle.std.proofs.lemmas.List.FromFn.{length-range_with_len, get_or-range_with_len, length-map-range_with_len, get_or-map-range_with_len}
use Rattle.std.proofs.lemmas.List.Kept.{AllPairs-from_increasing}
use Rattle.std.proofs.lemmas.Nat.Bits.{bit_at-zero}
use Rattle.std.proofs.lemmas.Simd.{map-map}
use Rattle.bit_fields.specs.Bits.{field_at}
use Rattle.list_members.specs.Each.{AllByRecursion-at, filter_same}
use Rattle.list_members.specs.Ranges.{map_same}
use Rattle.radar_core.specs.declared.key.BlockKey.{BlockKey}
use Rattle.bit_fields.specs.Bits.{bit}
use Rattle.bit_fields.specs.BitsBack.{bit_below, bit_back}
use Rattle.radar_core.specs.Keys.{front_bytes}
use Rattle.radar_core.specs.Cells.{blank_cells}
use Rattle.radar_core.specs.Blanks.{IsGroup, block_in_ring, bitmap_length, is_named, named_offsets, key_beside, length_for, first_bitmap_byte, bitmap_byte, bitmap_of, blank_record}
use Rattle.radar_core.specs.Radar.{Block, radar_blocks, named_blocks, blank_block, blank_blocks}
use Rattle.radar_core.proofs.GroupLemmas.{each_from}
use Rattle.radar_core.proofs.MarkLemmas.{above_base, near_base, last-of_group}
use Rattle.radar_core.proofs.RankLemmas.{below_eight, named_by, or_skip}
use Rattle.radar_core.proofs.ReadBack.{bitmap_record_read}

-- whether a number is among some
abbrev has : List ℕ → ℕ → Bool
has xs number = list_any (λ x. x == number) xs

has_none : (xs : List ℕ) (number : ℕ) → ((k : ℕ) → k < length xs → get_or xs k 0 ≡ number → ⊥) → has xs number ≡ false
has_none [] number differs = refl
has_none (x ∷ xs) number differs =
    or_skip (x == number) (has xs number) (ne_eqb x number (differs 0 (omega arith)))
    ∙ has_none xs number (λ k below. differs (suc k) (omega arith))

-- the offsets at which rising numbers stand, counted on, are those numbers
pub tail_rises : (x : ℕ) (xs : List ℕ) → IsStrictlyIncreasing (x ∷ xs) → IsStrictlyIncreasing xs
tail_rises x xs rises k below =
    let step : get_or xs k 0 < get_or (x ∷ xs) (suc k + 1) 0 = rises (suc k) (omega arith) in
    let next : suc k + 1 ≡ suc (k + 1) = omega arith in
    let same : get_or (x ∷ xs) (suc k + 1) 0 ≡ get_or xs (k + 1) 0 = ap (λ n. get_or (x ∷ xs) n 0) next in
    omega (arith, step, same)

offsets_back : (base : ℕ) (xs : List ℕ) (a n : ℕ) → IsStrictlyIncreasing xs → ((k : ℕ) → k < length xs → base + a ≤ get_or xs k 0)
    → ((k : ℕ) → k < length xs → get_or xs k 0 < base + a + n) → map (λ o. base + o) (filter (λ o. has xs (base + o)) (range_with_len a n)) ≡ xs
offsets_back base [] a zero rises least most = refl
offsets_back base [] a (suc n) rises least most =
    offsets_back base [] (a + 1) n rises (λ k below. absurd (omega arith)) (λ k below. absurd (omega arith))
offsets_back base (x ∷ xs) a zero rises least most = let low = least 0 (omega arith) in let high = most 0 (omega arith) in absurd (omega (arith, low, high))
offsets_back base (x ∷ xs) a (suc n) rises least most =
    let p : ℕ → Bool = λ o. has (x ∷ xs) (base + o) in
    let rest : List ℕ = range_with_len (a + 1) n in
    let low : base + a ≤ x = least 0 (omega arith) in
    let pairs = AllPairs-from_increasing (x ∷ xs) rises in
    let above : (k : ℕ) → k < length xs → x < get_or xs k 0 = λ k below. pairs 0 (suc k) 0 (omega arith) (omega arith) in
    elim (cases_eq x (base + a)) [
      | inl same ↦
          let later : filter p rest ≡ filter (λ o. has xs (base + o)) rest =
          filter_same p (λ o. has xs (base + o)) rest
          (each_from (λ o. p o ≡ has xs (base + o)) rest (λ k below.
          let size = length-range_with_len (a + 1) n in
          let value = get_or-range_with_len (a + 1) n k 0 (omega arith) in
          or_skip (x == base + get_or rest k 0) (has xs (base + get_or rest k 0)) (ne_eqb x (base + get_or rest k 0) (λ e. absurd (omega (arith, e, value, same))))))
          in
          ap (map (λ o. base + o)) (cond-true (p a) (a ∷ filter p rest) (filter p rest) (or_left (x == base + a) (has xs (base + a)) (eq-eqb x (base + a) same)))
          ∙ ap (λ n. n ∷ map (λ o. base + o) (filter p rest)) (sym same)
          ∙ ap (λ (b : List ℕ). x ∷ map (λ o. base + o) b) later
          ∙ ap (λ (b : List ℕ). x ∷ b)
          (offsets_back base xs (a + 1) n (tail_rises x xs rises) (λ k below. let up = above k below in omega (arith, up, same))
          (λ k below. let high = most (suc k) (omega arith) in omega (arith, high)))
      | inr other ↦
          let unset : p a ≡ false =
          has_none (x ∷ xs) (base + a)
          (λ k below. elim (cases_eq k 0) [
            | inl first ↦ λ e. other (sym (ap (λ m. get_or (x ∷ xs) m 0) first) ∙ e)
            | inr later ↦ λ e. let up : x < get_or (x ∷ xs) k 0 = pairs 0 k 0 (omega arith) below in absurd (omega (arith, up, e, low))
          ])
          in
          ap (map (λ o. base + o)) (cond-false (p a) (a ∷ filter p rest) (filter p rest) unset)
          ∙ offsets_back base (x ∷ xs) (a + 1) n rises
          (λ k below. elim (cases_eq k 0) [
            | inl first ↦ let e : get_or (x ∷ xs) k 0 ≡ x = ap (λ m. get_or (x ∷ xs) m 0) first in let differs : base + a < x = omega (arith, low, other) in omega (arith, e, differs)
            | inr later ↦ let up : x < get_or (x ∷ xs) k 0 = pairs 0 k 0 (omega arith) below in omega (arith, up, low)
          ])
          (λ k below. let high = most k below in omega (arith, high))
    ]

-- the bits of a byte of eight marks
record AreBits (byte a b c d e f g h : ℕ) : Type 0 where
  bit7 : bit_at byte 7 ≡ a
  bit6 : bit_at byte 6 ≡ b
  bit5 : bit_at byte 5 ≡ c
  bit4 : bit_at byte 4 ≡ d
  bit3 : bit_at byte 3 ≡ e
  bit2 : bit_at byte 2 ≡ f
  bit1 : bit_at byte 1 ≡ g
  bit0 : bit_at byte 0 ≡ h

eight_bits : (a b c d e f g h : ℕ) → a < 2 → b < 2 → c < 2 → d < 2 → e < 2 → f < 2 → g < 2 → h < 2
    → AreBits ((((((((0 * 2 + a) * 2 + b) * 2 + c) * 2 + d) * 2 + e) * 2 + f) * 2 + g) * 2 + h) a b c d e f g h
eight_bits a b c d e f g h p q r s t u v w = record {
  bit7 = omega arith;
  bit6 = omega arith;
  bit5 = omega arith;
  bit4 = omega arith;
  bit3 = omega arith;
  bit2 = omega arith;
  bit1 = omega arith;
  bit0 = omega arith;
}

byte_bits : (base : ℕ) (further : List ℕ) (place j : ℕ) → j < 8 → (bit_at (bitmap_byte base further place) j == 1) ≡ has further (base + (8 * place - 3 + j))
byte_bits base further place =
    let low : ℕ = 8 * place - 3 in
    let b : ℕ → Bool = λ j. has further (base + j) in
    let are : AreBits (bitmap_byte base further place) (bit (b (low + 7))) (bit (b (low + 6))) (bit (b (low + 5))) (bit (b (low + 4))) (bit (b (low + 3))) (bit (b (low + 2))) (bit (b (low + 1))) (bit (b low)) =
    eight_bits (bit (b (low + 7))) (bit (b (low + 6))) (bit (b (low + 5))) (bit (b (low + 4))) (bit (b (low + 3))) (bit (b (low + 2))) (bit (b (low + 1))) (bit (b low))
    (bit_below (b (low + 7))) (bit_below (b (low + 6))) (bit_below (b (low + 5))) (bit_below (b (low + 4))) (bit_below (b (low + 3)))
    (bit_below (b (low + 2))) (bit_below (b (low + 1))) (bit_below (b low))
    in
    let none : low ≡ low + 0 = omega arith in
    below_eight (λ j. (bit_at (bitmap_byte base further place) j == 1) ≡ has further (base + (8 * place - 3 + j)))
    (bit_back (b low) (bit_at (bitmap_byte base further place) 0) are.bit0 ∙ ap b none)
    (bit_back (b (low + 1)) (bit_at (bitmap_byte base further place) 1) are.bit1)
    (bit_back (b (low + 2)) (bit_at (bitmap_byte base further place) 2) are.bit2)
    (bit_back (b (low + 3)) (bit_at (bitmap_byte base further place) 3) are.bit3)
    (bit_back (b (low + 4)) (bit_at (bitmap_byte base further place) 4) are.bit4)
    (bit_back (b (low + 5)) (bit_at (bitmap_byte base further place) 5) are.bit5)
    (bit_back (b (low + 6)) (bit_at (bitmap_byte base further place) 6) are.bit6)
    (bit_back (b (low + 7)) (bit_at (bitmap_byte base further place) 7) are.bit7)

-- the bits of the first byte, and the length in it
record AreFirst (byte a b c d n : ℕ) : Type 0 where
  bit7 : bit_at byte 7 ≡ a
  bit6 : bit_at byte 6 ≡ b
  bit5 : bit_at byte 5 ≡ c
  bit4 : bit_at byte 4 ≡ d
  length_is : field_at (byte ∷ []) 4 4 ≡ n

four_and_length : (a b c d n : ℕ) → a < 2 → b < 2 → c < 2 → d < 2 → n < 16 → AreFirst (((((0 * 2 + a) * 2 + b) * 2 + c) * 2 + d) * 16 + n) a b c d n
four_and_length a b c d n p q r s t = record { bit7 = omega arith; bit6 = omega arith; bit5 = omega arith; bit4 = omega arith; length_is = omega arith }

first_are : (base : ℕ) (further : List ℕ) → length_for base further < 16
    → AreFirst (first_bitmap_byte base further) (bit (has further (base + 4))) (bit (has further (base + 3))) (bit (has further (base + 2))) (bit (has further (base + 1))) (length_for base further)
first_are base further fits =
    four_and_length (bit (has further (base + 4))) (bit (has further (base + 3))) (bit (has further (base + 2))) (bit (has further (base + 1))) (length_for base further)
    (bit_below (has further (base + 4))) (bit_below (has further (base + 3))) (bit_below (has further (base + 2))) (bit_below (has further (base + 1))) fits

first_bits : (base : ℕ) (further : List ℕ) → length_for base further < 16 → (j : ℕ) → j < 8 → 4 ≤ j → (bit_at (first_bitmap_byte base further) j == 1) ≡ has further (base + (j - 3))
first_bits base further fits =
    let are = first_are base further fits in
    let b : ℕ → Bool = λ j. has further (base + j) in
    below_eight (λ j. 4 ≤ j → (bit_at (first_bitmap_byte base further) j == 1) ≡ has further (base + (j - 3)))
    (λ low. absurd (omega arith)) (λ low. absurd (omega arith)) (λ low. absurd (omega arith)) (λ low. absurd (omega arith))
    (λ low. bit_back (b 1) (bit_at (first_bitmap_byte base further) 4) are.bit4)
    (λ low. bit_back (b 2) (bit_at (first_bitmap_byte base further) 5) are.bit5)
    (λ low. bit_back (b 3) (bit_at (first_bitmap_byte base further) 6) are.bit6)
    (λ low. bit_back (b 4) (bit_at (first_bitmap_byte base further) 7) are.bit7)

-- the bytes of a bitmap, by their place
pub length-bitmap_of : (base : ℕ) (further : List ℕ) → length (bitmap_of base further) ≡ length_for base further
length-bitmap_of base further =
    ap suc (length-map-range_with_len (bitmap_byte base further) 1 (length_for base further - 1)) ∙ omega arith

byte_at_place : (base : ℕ) (further : List ℕ) (m : ℕ) → suc m < length_for base further → get_or (bitmap_of base further) (suc m) 0 ≡ bitmap_byte base further (suc m)
byte_at_place base further m inside =
    get_or-map-range_with_len (bitmap_byte base further) 1 (length_for base further - 1) m (suc m) 0 (omega arith) (omega arith)

-- the last number of a group is the greatest
last_greatest : (base : ℕ) (further : List ℕ) (k : ℕ) → IsGroup base further → k < length further
    → get_or further k 0 ≤ get_or (base ∷ further) (length further) 0
last_greatest base further k group below =
    elim (cases_eq (suc k) (length further)) [
      | inl same ↦ let e : get_or further k 0 ≡ get_or (base ∷ further) (length further) 0 = ap (λ n. get_or (base ∷ further) n 0) same in omega (arith, e)
      | inr other ↦
          let up : get_or further k 0 < get_or (base ∷ further) (length further) 0 =
          AllPairs-from_increasing (base ∷ further) group.rises (suc k) (length further) 0 (omega arith) (omega arith)
          in
          omega (arith, up)
    ]

-- an offset beside the base is named where its block is one of the further ones
further_named : (base : ℕ) (further : List ℕ) (o m j : ℕ) → IsGroup base further → 1 ≤ o → (o + 3) / 8 ≡ m → (o + 3) % 8 ≡ j
    → (bit_at (get_or (bitmap_of base further) m 0) j == 1) ≡ has further (base + o)
further_named base further o zero j group some place_is bit_is =
    let last = last-of_group base further group in
    let back : j - 3 ≡ o = omega arith in
    first_bits base further (omega (arith, last.most)) j (omega arith) (omega arith) ∙ ap (λ n. has further (base + n)) back
further_named base further o (suc m) j group some place_is bit_is =
    elim (cases_lt (suc m) (length_for base further)) [
      | inl inside ↦
          let back : 8 * suc m - 3 + j ≡ o = omega arith in
          ap (λ n. bit_at n j == 1) (byte_at_place base further m inside) ∙ byte_bits base further (suc m) j (omega arith)
          ∙ ap (λ n. has further (base + n)) back
      | inr past ↦
          let zeros : get_or (bitmap_of base further) (suc m) 0 ≡ 0 = get_or_past (bitmap_of base further) (suc m) 0 (omega (arith, length-bitmap_of base further, past)) in
          let unset : bit_at 0 j ≡ 0 = bit_at-zero j in
          ap (λ n. bit_at n j == 1) zeros ∙ ap (λ n. n == 1) unset
          ∙ sym
          (has_none further (base + o)
          (λ k below e.
          let greatest = last_greatest base further k group below in
          let last = last-of_group base further group in
          absurd (omega (arith, greatest, e, past, last.least))))
    ]

pub named_is : (base : ℕ) (further : List ℕ) (o : ℕ) → IsGroup base further → is_named (bitmap_of base further) o ≡ has (base ∷ further) (base + o)
named_is base further o group =
    elim (cases_eq o 0) [
      | inl none ↦
          or_left (o == 0) _ (eq-eqb o 0 none) ∙ sym (or_left (base == base + o) (has further (base + o)) (eq-eqb base (base + o) (omega arith)))
      | inr some ↦
          named_by (bitmap_of base further) o ((o + 3) / 8) ((o + 3) % 8) some refl refl
          ∙ further_named base further o ((o + 3) / 8) ((o + 3) % 8) group (omega (arith, some)) refl refl
          ∙ sym (or_skip (base == base + o) (has further (base + o)) (ne_eqb base (base + o) (λ e. some (omega arith))))
    ]

-- a group lies from its base to 116 further
pub group_least : (base : ℕ) (further : List ℕ) → IsGroup base further → (k : ℕ) → k < length (base ∷ further) → base + 0 ≤ get_or (base ∷ further) k 0
group_least base further group zero below = omega arith
group_least base further group (suc k) below = let above = above_base base further k group (omega arith) in omega (arith, above)

pub group_most : (base : ℕ) (further : List ℕ) (n : ℕ) → IsGroup base further → n ≡ 117 → (k : ℕ) → k < length (base ∷ further) → get_or (base ∷ further) k 0 < base + 0 + n
group_most base further n group n_is zero below = omega arith
group_most base further n group n_is (suc k) below = let near = near_base base further k group (omega arith) in omega (arith, near)

pub group_ring : (base : ℕ) (further : List ℕ) → IsGroup base further → (k : ℕ) → k < length (base ∷ further) → get_or (base ∷ further) k 0 / 450 ≡ base / 450
group_ring base further group zero below = refl
group_ring base further group (suc k) below = group.in_ring k 0 (omega arith)

-- the offsets that the bitmap names, counted on from the base
pub offsets_are : (base : ℕ) (further : List ℕ) → IsGroup base further → map (λ o. base + o) (named_offsets (bitmap_of base further)) ≡ base ∷ further
unfolding named_offsets
offsets_are base further group =
    let bitmap : List ℕ = bitmap_of base further in
    let at : (n : ℕ) → 117 ≡ n → map (λ o. base + o) (filter (is_named bitmap) (range_with_len 0 n)) ≡ base ∷ further =
    λ n n_is.
    ap (map (λ o. base + o))
    (filter_agree (is_named bitmap) (λ o. has (base ∷ further) (base + o)) (λ o. named_is base further o group) (range_with_len 0 n))
    ∙ offsets_back base (base ∷ further) 0 n group.rises (group_least base further group) (group_most base further n group (sym n_is))
    in
    at 117 refl

-- a block in the ring of its base
in_ring : (base o : ℕ) → (base + o) / 450 ≡ base / 450 → block_in_ring base o ≡ base + o
in_ring base o same = omega arith

pub blocks_are : (base : BlockKey) (further : List ℕ) → IsGroup base.number further
    → named_blocks base (bitmap_of base.number further) ≡ blank_blocks base (base.number ∷ further)
blocks_are base further group =
    let offsets : List ℕ = named_offsets (bitmap_of base.number further) in
    let all : map (λ o. base.number + o) offsets ≡ base.number ∷ further = offsets_are base.number further group in
    let block : ℕ → Block = λ number. (key_beside base number, blank_cells) in
    let ring_keeps : AllByRecursion (λ o. blank_block base o ≡ block (base.number + o)) offsets =
    each_from (λ o. blank_block base o ≡ block (base.number + o)) offsets (λ k below.
    let size : length (map (λ o. base.number + o) offsets) ≡ length (base.number ∷ further) = ap length all in
    let sizes : length (map (λ o. base.number + o) offsets) ≡ length offsets = length-map offsets (λ o. base.number + o) in
    let at : base.number + get_or offsets k 0 ≡ get_or (base.number ∷ further) k 0 =
    sym (get_or-map (λ o. base.number + o) offsets k 0 0 below) ∙ ap (λ (b : List ℕ). get_or b k 0) all
    in
    let ring : (base.number + get_or offsets k 0) / 450 ≡ base.number / 450 =
    ap (λ n. n / 450) at ∙ group_ring base.number further group k (omega (arith, size, sizes))
    in
    ap block (in_ring base.number (get_or offsets k 0) ring))
    in
    map_same (blank_block base) (λ o. block (base.number + o)) offsets
    (λ o there. AllByRecursion-at (λ o. blank_block base o ≡ block (base.number + o)) offsets o ring_keeps there)
    ∙ sym (map-map block (λ o. base.number + o) offsets) ∙ ap (map block) all

-- the empty record of a group reads back as its blocks
pub blank_record-back : (base : BlockKey) (further : List ℕ) → base.scale ≤ 2 → base.number < 405000 → IsGroup base.number further
    → radar_blocks base.product (blank_record base further) ≡ Ok (blank_blocks base (base.number ∷ further))
unfolding blank_record
blank_record-back base further scale number group =
    let bitmap : List ℕ = bitmap_of base.number further in
    let last = last-of_group base.number further group in
    let fits : length_for base.number further < 16 = omega (arith, last.most) in
    let size = length-bitmap_of base.number further in
    let length_is : bitmap_length bitmap ≡ length_for base.number further = (first_are base.number further fits).length_is in
    bitmap_record_read base bitmap (record { scale = scale; number = omega arith }) (omega (arith, size))
    ∙ cond-false _ _ _ (lt-leb 405000 base.number number)
    ∙ cond-false _ _ _ (le-ltb (length bitmap) (bitmap_length bitmap) (omega (arith, size, length_is)))
    ∙ ap (λ (b : List ℕ). Ok (named_blocks base b)) (take_all (bitmap_length bitmap) bitmap (omega (arith, size, length_is)))
    ∙ ap (λ blocks. Ok blocks) (blocks_are base further group)

pub blank_record-size : (base : BlockKey) (further : List ℕ) → IsGroup base.number further
    → (4 ≤ length (blank_record base further)) × (length (blank_record base further) ≤ 18)
unfolding blank_record
blank_record-size base further group =
    let last = last-of_group base.number further group in
    let size = length-append (front_bytes false base) (bitmap_of base.number further) in
    let bytes = length-bitmap_of base.number further in
    (omega (arith, size, bytes), omega (arith, size, bytes, last.most))
