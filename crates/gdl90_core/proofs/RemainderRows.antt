-- The rows of the table are remainders, and the table goes on with a remainder by a byte.
use Rattle.std.specs.Prelude.{◌&&◌, ◌==◌}
use Rattle.std.proofs.Common.{◌≡◌, ℕ, zero, suc, ◌+◌, ◌*◌, ◌/◌, ◌%◌, ◌^◌, ◌<◌, Bool, true, List, [], ◌∷◌, refl, sym}
use Rattle.std.proofs.Common.{◌∙◌, ap, subst, arith, lit<, length, get_or}
use Rattle.std.specs.Int.Bits.{bit_xor, xor_assoc, xor_zero_r}
use Rattle.std.proofs.lemmas.Nat.{xor_lt}
use Rattle.std.proofs.lemmas.Bool.{and_parts, eqb-true}
use Rattle.std.proofs.lemmas.List.Elements.{All-cons, All-nil}
use Rattle.bit_fields.specs.Bits.{number_of, AreBytes}
use Rattle.gdl90_core.specs.declared.remainders.TheConstants.{REMAINDERS}
use Rattle.gdl90_core.specs.CheckSequence.{multiple, IsRest, with_byte, remainder}
use Rattle.bit_fields.specs.Xors.{xor-low}
use Rattle.gdl90_core.proofs.LongDivision.{rest_unique, rest_byte, rest_itself, remainder_is_rest}

-- the row at each place, from `place` on, is the remainder of the place and two bytes 0
has_remainders : ℕ → List ℕ → Bool
has_remainders place [] = true
has_remainders place (row ∷ more) = (row == remainder (place ∷ 0 ∷ 0 ∷ [])) && has_remainders (suc place) more

remainders_from_test :
    (place : ℕ) (rows : List ℕ) → has_remainders place rows ≡ true → (i : ℕ) → i < length rows
    → get_or rows i 0 ≡ remainder ((place + i) ∷ 0 ∷ 0 ∷ [])
unfolding has_remainders
remainders_from_test place [] e i h = absurd (omega arith)
remainders_from_test place (row ∷ more) e zero h =
    eqb-true row (remainder (place ∷ 0 ∷ 0 ∷ [])) (and_parts _ _ e).0
    ∙ ap (λ (n : ℕ). remainder (n ∷ 0 ∷ 0 ∷ [])) (let z : place ≡ place + 0 = omega arith in z)
remainders_from_test place (row ∷ more) e (suc i) h =
    remainders_from_test (suc place) more (and_parts _ _ e).1 i (omega arith)
    ∙ ap (λ (n : ℕ). remainder (n ∷ 0 ∷ 0 ∷ [])) (let z : suc place + i ≡ place + suc i = omega arith in z)

rows_are_remainders : has_remainders 0 REMAINDERS ≡ true
unfolding has_remainders remainder
rows_are_remainders = refl

row_is_remainder : (i : ℕ) → i < 256 → get_or REMAINDERS i 0 ≡ remainder (i ∷ 0 ∷ 0 ∷ [])
row_is_remainder i h =
    remainders_from_test 0 REMAINDERS rows_are_remainders i h
    ∙ ap (λ (n : ℕ). remainder (n ∷ 0 ∷ 0 ∷ [])) (let z : 0 + i ≡ i = omega arith in z)

row_is_rest : (i : ℕ) → i < 256 → IsRest (i * 65536) (get_or REMAINDERS i 0)
row_is_rest i h =
    let e : number_of (i ∷ 0 ∷ 0 ∷ []) ≡ i * 65536 = omega arith in
    let B : ℕ → Type 0 = λ b. b < 256 in
    let bytes : AreBytes (i ∷ 0 ∷ 0 ∷ []) =
    All-cons B i (0 ∷ 0 ∷ []) h (All-cons B 0 (0 ∷ []) (lit< tt) (All-cons B 0 [] (lit< tt) (All-nil B))) in
    let P : ℕ → ℕ → Type 0 = λ n r. IsRest n r in
    let Q : ℕ → Type 0 = λ n. P n (get_or REMAINDERS i 0) in
    let R : ℕ → Type 0 = λ r. P (number_of (i ∷ 0 ∷ 0 ∷ [])) r in
    subst Q e (subst R (sym (row_is_remainder i h)) (remainder_is_rest (i ∷ 0 ∷ 0 ∷ []) bytes))

-- the table goes on with a remainder
pub row_step :
    (r byte : ℕ) → r < 65536 → byte < 256
    → bit_xor (get_or REMAINDERS (r / 256) 0) (r % 256 * 256 + byte) ≡ with_byte r byte
row_step r byte fits h =
    let row : ℕ = get_or REMAINDERS (r / 256) 0 in
    let low : ℕ = r % 256 * 256 + byte in
    let R : IsRest (r / 256 * 65536) row = row_is_rest (r / 256) (omega arith) in
    let low_fits : low < 2 ^ 16 = omega arith in
    let split : 256 * r + byte ≡ r / 256 * 2 ^ 16 + low = omega arith in
    let plain : 0 * 2 ^ 16 + low ≡ low = omega arith in
    let apart : bit_xor (r / 256 * 2 ^ 16) low ≡ r / 256 * 2 ^ 16 + low =
    ap (bit_xor (r / 256 * 2 ^ 16)) (sym plain) ∙ xor-low 16 (r / 256) 0 low low_fits
    ∙ ap (λ (n : ℕ). n * 2 ^ 16 + low) (xor_zero_r (r / 256)) in
    rest_unique (256 * r + byte) (bit_xor row low) (with_byte r byte)
    (record {
      fits = xor_lt 16 row low R.fits low_fits;
      times = R.times;
      whole =
          split ∙ sym apart ∙ ap (λ (n : ℕ). bit_xor n low) R.whole ∙ xor_assoc (multiple R.times) row low;
    })
    (rest_byte r r byte (rest_itself r fits) h)
