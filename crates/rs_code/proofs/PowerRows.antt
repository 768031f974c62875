-- The tables of rows: each byte is a power of 2, which is computed over the whole tables, and a multiple of a row is the sum
-- of the rows of the bits of its factor.
use Rattle.std.proofs.Common.{◌≡◌, ℕ, zero, suc, ◌+◌, ◌*◌, ◌/◌, ◌%◌, ◌^◌, ◌<◌, List, [], ◌∷◌, Bool, true, false, ◌&&◌, eqb, length, get_or, drop, lit<, refl, sym, ◌∙◌, ap, ap₂, arith, inl, inr}
use Rattle.std.specs.Int.Bits.{bit_xor, xor_zero_r, xor_assoc}
use Rattle.std.proofs.lemmas.Bool.{and_parts, eqb-true, cases_eq}
use Rattle.std.proofs.lemmas.List.{get_or-drop}
use Rattle.gf256_core.specs.Field.{IsField, product, power, remainder, plain_product}
use Rattle.poly256.specs.Polynomial.{element_product, element_power}
use Rattle.rs_code.specs.declared.place_powers.TheConstants.{PLACE_POWERS}
use Rattle.rs_code.specs.declared.root_powers.TheConstants.{ROOT_POWERS}
use Rattle.rs_code.specs.Rows.{HasBitRows}
use Rattle.rs_code.proofs.Powers.{power-suc, power-add}

-- a test of all numbers below one
passes_below : (ℕ → Bool) → ℕ → Bool
passes_below test zero = true
passes_below test (suc n) = test n && passes_below test n

from_passes : (test : ℕ → Bool) (n i : ℕ) → passes_below test n ≡ true → i < n → test i ≡ true
unfolding passes_below
from_passes test zero i e h = absurd (omega arith)
from_passes test (suc n) i e h =
    let parts = and_parts (test n) (passes_below test n) e in
    elim (cases_eq i n) [
      | inl same ↦ ap test same ∙ parts.0
      | inr apart ↦ from_passes test n i parts.1 (omega arith)
    ]

-- one more bit of a byte
has_bit : ℕ → ℕ → Bool
has_bit byte bit =
    eqb (byte % 2 ^ (bit + 1)) (bit_xor (byte % 2 ^ bit) (byte / 2 ^ bit % 2 * 2 ^ bit)) && eqb (byte / 2 ^ (bit + 1)) (byte / 2 ^ bit / 2)

all_bits : passes_below (λ byte. passes_below (λ bit. has_bit byte bit) 8) 256 ≡ true
unfolding passes_below has_bit
all_bits = refl

bits_of : (byte bit : ℕ) → byte < 256 → bit < 8 → has_bit byte bit ≡ true
bits_of byte bit fits low =
    from_passes (λ (b : ℕ). has_bit byte b) 8 bit
    (from_passes (λ (n : ℕ). passes_below (λ (b : ℕ). has_bit n b) 8) 256 byte all_bits fits) low

pub lower_bits :
    (byte bit : ℕ) → byte < 256 → bit < 8
    → byte % 2 ^ (bit + 1) ≡ bit_xor (byte % 2 ^ bit) (byte / 2 ^ bit % 2 * 2 ^ bit)
unfolding has_bit
lower_bits byte bit fits low = eqb-true _ _ (and_parts _ _ (bits_of byte bit fits low)).0

pub higher_bits : (byte bit : ℕ) → byte < 256 → bit < 8 → byte / 2 ^ (bit + 1) ≡ byte / 2 ^ bit / 2
unfolding has_bit
higher_bits byte bit fits low = eqb-true _ _ (and_parts _ _ (bits_of byte bit fits low)).1

-- one more bit adds its row
pub bit_set :
    (F : IsField 391) (byte bit old new row more : ℕ) → byte < 256 → bit < 8 → byte / 2 ^ bit % 2 ≡ 1
    → more ≡ element_product (2 ^ bit) row → old ≡ bit_xor new (element_product (byte % 2 ^ bit) row)
    → bit_xor old more ≡ bit_xor new (element_product (byte % 2 ^ (bit + 1)) row)
bit_set F byte bit old new row more fits low one is_more is_old =
    let whole : byte % 2 ^ (bit + 1) ≡ bit_xor (byte % 2 ^ bit) (2 ^ bit) =
    lower_bits byte bit fits low
    ∙ ap (λ (x : ℕ). bit_xor (byte % 2 ^ bit) (x * 2 ^ bit)) one
    ∙ ap (bit_xor (byte % 2 ^ bit)) (let m : 1 * 2 ^ bit ≡ 2 ^ bit = omega arith in m) in
    ap₂ bit_xor is_old is_more
    ∙ xor_assoc new (element_product (byte % 2 ^ bit) row) (element_product (2 ^ bit) row)
    ∙ ap (bit_xor new) (sym (ap (λ (x : ℕ). element_product x row) whole ∙ F.distributive (byte % 2 ^ bit) (2 ^ bit) row))

pub bit_clear :
    (byte bit old new row : ℕ) → byte < 256 → bit < 8 → byte / 2 ^ bit % 2 ≡ 0
    → old ≡ bit_xor new (element_product (byte % 2 ^ bit) row)
    → old ≡ bit_xor new (element_product (byte % 2 ^ (bit + 1)) row)
bit_clear byte bit old new row fits low none is_old =
    let whole : byte % 2 ^ (bit + 1) ≡ byte % 2 ^ bit =
    lower_bits byte bit fits low
    ∙ ap (λ (x : ℕ). bit_xor (byte % 2 ^ bit) (x * 2 ^ bit)) none
    ∙ ap (bit_xor (byte % 2 ^ bit)) (let m : 0 * 2 ^ bit ≡ 0 = omega arith in m)
    ∙ xor_zero_r (byte % 2 ^ bit) in
    is_old ∙ sym (ap (λ (x : ℕ). bit_xor new (element_product x row)) whole)

-- x, s x, s^2 x and so on
has_row : ℕ → ℕ → ℕ → List ℕ → Bool
has_row x s zero rows = true
has_row x s (suc n) [] = false
has_row x s (suc n) (r ∷ rows) = eqb r x && has_row (element_product x s) s n rows

row_from_test :
    (F : IsField 391) (e s n : ℕ) (rows : List ℕ) → has_row (element_power 2 e) (element_power 2 s) n rows ≡ true → (k : ℕ)
    → k < n → get_or rows k 0 ≡ element_power 2 (e + s * k)
unfolding has_row
row_from_test F e s zero rows is k h = absurd (omega arith)
row_from_test F e s (suc n) [] is k h = cc
row_from_test F e s (suc n) (r ∷ rows) is zero h =
    eqb-true r (element_power 2 e) (and_parts _ _ is).0 ∙ ap (element_power 2) (let m : e ≡ e + s * 0 = omega arith in m)
row_from_test F e s (suc n) (r ∷ rows) is (suc k) h =
    row_from_test F (e + s) s n rows
    (ap (λ (x : ℕ). has_row x (element_power 2 s) n rows) (power-add F 2 e s) ∙ (and_parts _ _ is).1) k (omega arith)
    ∙ ap (element_power 2) (let m : e + s + s * k ≡ e + s * suc k = omega arith in m)

-- rows that begin with x, 2 x, 4 x and so on
has_rows : ℕ → ℕ → ℕ → ℕ → List ℕ → Bool
has_rows width x s zero rows = true
has_rows width x s (suc n) rows = has_row x s width rows && has_rows width (element_product x 2) s n (drop width rows)

rows_from_test :
    (F : IsField 391) (width e s n : ℕ) (rows : List ℕ)
    → has_rows width (element_power 2 e) (element_power 2 s) n rows ≡ true → (bit k : ℕ) → bit < n → k < width
    → get_or rows (width * bit + k) 0 ≡ element_power 2 (e + bit + s * k)
unfolding has_rows
rows_from_test F width e s zero rows is bit k h h' = absurd (omega arith)
rows_from_test F width e s (suc n) rows is zero k h h' =
    ap (λ (i : ℕ). get_or rows i 0) (let m : width * 0 + k ≡ k = omega arith in m)
    ∙ row_from_test F e s width rows (and_parts _ _ is).0 k h'
    ∙ ap (element_power 2) (let m : e + s * k ≡ e + 0 + s * k = omega arith in m)
rows_from_test F width e s (suc n) rows is (suc bit) k h h' =
    ap (λ (i : ℕ). get_or rows i 0) (let m : width * suc bit + k ≡ width + (width * bit + k) = omega arith in m)
    ∙ sym (get_or-drop width rows (width * bit + k) 0)
    ∙ rows_from_test F width (suc e) s n (drop width rows)
    (ap (λ (x : ℕ). has_rows width x (element_power 2 s) n (drop width rows)) (power-suc 2 e) ∙ (and_parts _ _ is).1) bit k (omega arith) h'
    ∙ ap (element_power 2) (let m : suc e + bit + s * k ≡ e + suc bit + s * k = omega arith in m)

-- eight such rows, and eight more whose first byte is q times and whose step is 2 times as great, and so on
has_blocks : ℕ → ℕ → ℕ → ℕ → ℕ → List ℕ → Bool
has_blocks width q x s zero rows = true
has_blocks width q x s (suc n) rows =
    has_rows width x s 8 rows && has_blocks width q (element_product x q) (element_product s 2) n (drop (width * 8) rows)

blocks_from_test :
    (F : IsField 391) (width d e s n : ℕ) (rows : List ℕ)
    → has_blocks width (element_power 2 d) (element_power 2 e) (element_power 2 s) n rows ≡ true → (i bit k : ℕ) → i < n
    → bit < 8 → k < width → get_or rows (width * 8 * i + width * bit + k) 0 ≡ element_power 2 (e + d * i + bit + (s + i) * k)
unfolding has_blocks
blocks_from_test F width d e s zero rows is i bit k h h' h'' = absurd (omega arith)
blocks_from_test F width d e s (suc n) rows is zero bit k h h' h'' =
    ap (λ (j : ℕ). get_or rows j 0) (let m : width * 8 * 0 + width * bit + k ≡ width * bit + k = omega arith in m)
    ∙ rows_from_test F width e s 8 rows (and_parts _ _ is).0 bit k h' h''
    ∙ ap₂ (λ (a b : ℕ). element_power 2 (a + bit + b * k)) (let m : e ≡ e + d * 0 = omega arith in m) (let m : s ≡ s + 0 = omega arith in m)
blocks_from_test F width d e s (suc n) rows is (suc i) bit k h h' h'' =
    ap (λ (j : ℕ). get_or rows j 0)
    (let m : width * 8 * suc i + width * bit + k ≡ width * 8 + (width * 8 * i + width * bit + k) = omega arith in m)
    ∙ sym (get_or-drop (width * 8) rows (width * 8 * i + width * bit + k) 0)
    ∙ blocks_from_test F width d (e + d) (suc s) n (drop (width * 8) rows)
    (ap₂ (λ (x y : ℕ). has_blocks width (element_power 2 d) x y n (drop (width * 8) rows)) (power-add F 2 e d) (power-suc 2 s) ∙ (and_parts _ _ is).1)
    i bit k (omega arith) h' h''
    ∙ ap₂ (λ (a b : ℕ). element_power 2 (a + bit + b * k)) (let m : e + d + d * i ≡ e + d * suc i = omega arith in m) (let m : suc s + i ≡ s + suc i = omega arith in m)

place_test : has_blocks 96 (element_power 2 0) (element_power 2 0) (element_power 2 0) 11 PLACE_POWERS ≡ true
unfolding has_blocks has_rows has_row product remainder plain_product power
place_test = refl

root_test : has_blocks 32 (element_power 2 120) (element_power 2 0) (element_power 2 0) 20 ROOT_POWERS ≡ true
unfolding has_blocks has_rows has_row product remainder plain_product power
root_test = refl

pub place_powers_long : length PLACE_POWERS ≡ 8448
place_powers_long = refl

pub root_powers_long : length ROOT_POWERS ≡ 5120
root_powers_long = refl

byte_powers : passes_below (λ bit. eqb (element_power 2 bit) (2 ^ bit)) 8 ≡ true
unfolding passes_below product remainder plain_product power
byte_powers = refl

-- a table in which each byte is the power of 2 that its row and its place in the row name
abbrev HasPowers : ℕ → ℕ → ℕ → List ℕ → Type 0
HasPowers width d n rows =
    (i bit k : ℕ) → i < n → bit < 8 → k < width
    → get_or rows (width * 8 * i + width * bit + k) 0 ≡ element_power 2 (d * i + bit + i * k)

powers-first :
    (width d n : ℕ) (rows : List ℕ) → HasPowers width d n rows → (i k : ℕ) → i < n → k < width
    → get_or rows (width * 8 * i + k) 0 ≡ element_power 2 (i * (d + k))
powers-first width d n rows has i k h h' =
    ap (λ (j : ℕ). get_or rows j 0) (let m : width * 8 * i + k ≡ width * 8 * i + width * 0 + k = omega arith in m)
    ∙ has i 0 k h (lit< tt) h'
    ∙ ap (element_power 2) (let m : d * i + 0 + i * k ≡ i * (d + k) = omega arith in m)

powers-rows :
    (F : IsField 391) (width d n : ℕ) (rows : List ℕ) → HasPowers width d n rows → (i : ℕ) → i < n
    → HasBitRows width rows (width * 8 * i)
powers-rows F width d n rows has i h = λ bit k h' h''.
    has i bit k h h' h''
    ∙ ap (element_power 2) (let m : d * i + bit + i * k ≡ bit + i * (d + k) = omega arith in m)
    ∙ power-add F 2 bit (i * (d + k))
    ∙ ap₂ element_product (eqb-true (element_power 2 bit) (2 ^ bit) (from_passes (λ (b : ℕ). eqb (element_power 2 b) (2 ^ b)) 8 bit byte_powers h'))
    (sym (powers-first width d n rows has i k h h''))

has-place_powers : (F : IsField 391) → HasPowers 96 0 11 PLACE_POWERS
has-place_powers F = λ i bit k h h' h''.
    blocks_from_test F 96 0 0 0 11 PLACE_POWERS place_test i bit k h h' h''
    ∙ ap (element_power 2) (let m : 0 + 0 * i + bit + (0 + i) * k ≡ 0 * i + bit + i * k = omega arith in m)

has-root_powers : (F : IsField 391) → HasPowers 32 120 20 ROOT_POWERS
has-root_powers F = λ i bit k h h' h''.
    blocks_from_test F 32 120 0 0 20 ROOT_POWERS root_test i bit k h h' h''
    ∙ ap (element_power 2) (let m : 0 + 120 * i + bit + (0 + i) * k ≡ 120 * i + bit + i * k = omega arith in m)

pub place_power :
    (F : IsField 391) (i k : ℕ) → i < 11 → k < 96 → get_or PLACE_POWERS (768 * i + k) 0 ≡ element_power 2 (i * k)
place_power F i k h h' =
    powers-first 96 0 11 PLACE_POWERS (has-place_powers F) i k h h' ∙ ap (element_power 2) (let m : i * (0 + k) ≡ i * k = omega arith in m)

pub place_rows : (F : IsField 391) (i : ℕ) → i < 11 → HasBitRows 96 PLACE_POWERS (768 * i)
place_rows F i h = powers-rows F 96 0 11 PLACE_POWERS (has-place_powers F) i h

pub root_power :
    (F : IsField 391) (i k : ℕ) → i < 20 → k < 32 → get_or ROOT_POWERS (256 * i + k) 0 ≡ element_power 2 ((120 + k) * i)
root_power F i k h h' =
    powers-first 32 120 20 ROOT_POWERS (has-root_powers F) i k h h'
    ∙ ap (element_power 2) (let m : i * (120 + k) ≡ (120 + k) * i = omega arith in m)

pub root_rows : (F : IsField 391) (i : ℕ) → i < 20 → HasBitRows 32 ROOT_POWERS (256 * i)
root_rows F i h = powers-rows F 32 120 20 ROOT_POWERS (has-root_powers F) i h
