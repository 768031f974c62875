-- The three-byte groups of the codes are the fields of six bits of the bytes.
use Rattle.std.proofs.Common.{◌≡◌, ◌⊎◌, ℕ, zero, suc, ◌+◌, ◌-◌, ◌*◌, ◌/◌, ◌%◌, ◌^◌, ◌<◌, ◌≤◌, inl, inr, List, [], ◌∷◌, ◌++◌, length, get_or, refl, sym, ap, ◌∙◌, length-append, All, arith}
use Rattle.std.proofs.Math.Nat.{div-div-eq-div-mul, mul-add-div_right, mul-add-mod_self_right, mul_assoc}
use Rattle.std.proofs.lemmas.Nat.{pow-add, pow_pos, div-mul-add}
use Rattle.std.proofs.lemmas.List.{get_or_append_left}
use Rattle.std.proofs.lemmas.List.Elements.{recursion_from_All, All-from_recursion}
use Rattle.std.specs.List.{AllByRecursion}
use Rattle.bit_fields.specs.Bits.{number_of, field_at}
use Rattle.bit_fields.specs.BytesAsNumbers.{IsByte, behind, behind_is, number_of-fits}
use Rattle.dlac_text.specs.SixBits.{packed_bytes, six_bit_groups}
use Rattle.dlac_text.specs.SixBitFields.{AreFields, AreRead, AreWritten}
use Rattle.dlac_text.specs.GroupCount.{length-six_bit_groups}
use Rattle.dlac_text.proofs.RoundTrip.{groups_of_packed, length-packed_bytes, packed_fits}
use Rattle.dlac_text.proofs.SixBitsLemmas.{IsSixBits}

fits : (xs : List ℕ) → AllByRecursion IsByte xs → number_of xs < 2 ^ (8 * length xs)
fits xs h = number_of-fits xs (All-from_recursion IsByte xs h)

-- three bytes as one number, before others
abbrev three : ℕ → ℕ → ℕ → ℕ
three x y z = 65536 * x + 256 * y + z

number_of-three : (x y z : ℕ) (more : List ℕ) → number_of (x ∷ y ∷ z ∷ more) ≡ three x y z * 2 ^ (8 * length more) + number_of more
number_of-three x y z more =
    let e : 256 * (256 * (256 * 0 + x) + y) + z ≡ three x y z = omega arith in
    ap (λ (n : ℕ). behind n more) e ∙ behind_is more (three x y z)

-- a field that stands in a number in front of another
in_front : (n e m j : ℕ) → m < 2 ^ e → (n * 2 ^ e + m) / 2 ^ (e + j) % 64 ≡ n / 2 ^ j % 64
in_front n e m j small =
    ap (λ (d : ℕ). (n * 2 ^ e + m) / d % 64) (pow-add 2 e j)
    ∙ ap (λ (q : ℕ). q % 64) (sym (div-div-eq-div-mul (n * 2 ^ e + m) (2 ^ e) (2 ^ j)))
    ∙ ap (λ (q : ℕ). q / 2 ^ j % 64) (div-mul-add n (2 ^ e) m small)

-- what stands in front of so many bits is a multiple
multiple : (n d e : ℕ) → n * 2 ^ (d + e) ≡ n * 2 ^ d * 2 ^ e
multiple n d e = ap (λ (p : ℕ). n * p) (pow-add 2 d e) ∙ sym (mul_assoc n (2 ^ d) (2 ^ e))

-- a field that stands behind it
in_back : (n d e m : ℕ) → (n * 2 ^ (d + 6 + e) + m) / 2 ^ e % 64 ≡ m / 2 ^ e % 64
in_back n d e m =
    ap (λ (x : ℕ). (x + m) / 2 ^ e % 64) (multiple n (d + 6) e)
    ∙ ap (λ (q : ℕ). q % 64) (mul-add-div_right (pow_pos e) (n * 2 ^ (d + 6)) m)
    ∙ ap (λ (x : ℕ). (x + m / 2 ^ e) % 64) (multiple n d 6)
    ∙ mul-add-mod_self_right (n * 2 ^ d) 64 (m / 2 ^ e)

rest_in_back : (n d e m : ℕ) → (n * 2 ^ (d + e) + m) % 2 ^ e ≡ m % 2 ^ e
rest_in_back n d e m =
    ap (λ (x : ℕ). (x + m) % 2 ^ e) (multiple n d e) ∙ mul-add-mod_self_right (n * 2 ^ d) (2 ^ e) m

-- the field at a place of the first three bytes
front_field :
    (x y z : ℕ) (more : List ℕ) (place j : ℕ) → AllByRecursion IsByte more → 8 * length (x ∷ y ∷ z ∷ more) - place - 6 ≡ 8 * length more + j →
    field_at (x ∷ y ∷ z ∷ more) place 6 ≡ three x y z / 2 ^ j % 64
front_field x y z more place j bytes at =
    ap (λ (e : ℕ). number_of (x ∷ y ∷ z ∷ more) / 2 ^ e % 64) at
    ∙ ap (λ (n : ℕ). n / 2 ^ (8 * length more + j) % 64) (number_of-three x y z more)
    ∙ in_front (three x y z) (8 * length more) (number_of more) j (fits more bytes)

-- the field at a place behind the first three bytes
back_field :
    (x y z : ℕ) (more : List ℕ) (place : ℕ) → place + 6 ≤ 8 * length more →
    field_at (x ∷ y ∷ z ∷ more) (24 + place) 6 ≡ field_at more place 6
back_field x y z more place within =
    let e = 8 * length more - place - 6 in
    let same : 8 * length (x ∷ y ∷ z ∷ more) - (24 + place) - 6 ≡ e = omega arith in
    let whole : 8 * length more ≡ place + 6 + e = omega arith in
    ap (λ (s : ℕ). number_of (x ∷ y ∷ z ∷ more) / 2 ^ s % 64) same
    ∙ ap (λ (n : ℕ). n / 2 ^ e % 64) (number_of-three x y z more)
    ∙ ap (λ (s : ℕ). (three x y z * 2 ^ s + number_of more) / 2 ^ e % 64) whole
    ∙ in_back (three x y z) place e (number_of more)

pub fields_are : (bytes : List ℕ) → AllByRecursion IsByte bytes → AreFields bytes (six_bit_groups bytes)
fields_are [] h k low = absurd (omega arith)
fields_are (x ∷ []) h zero low = let x_fits : x < 256 = h.0 in omega arith
fields_are (x ∷ []) h (suc k) low = absurd (omega arith)
fields_are (x ∷ y ∷ []) h zero low =
    let x_fits : x < 256 = h.0 in
    let y_fits : y < 256 = h.1.0 in
    omega arith
fields_are (x ∷ y ∷ []) h (suc zero) low =
    let x_fits : x < 256 = h.0 in
    let y_fits : y < 256 = h.1.0 in
    omega arith
fields_are (x ∷ y ∷ []) h (suc (suc k)) low = absurd (omega arith)
fields_are (x ∷ y ∷ z ∷ more) h zero low =
    let x_fits : x < 256 = h.0 in
    let y_fits : y < 256 = h.1.0 in
    let z_fits : z < 256 = h.1.1.0 in
    let group : x / 4 ≡ three x y z / 2 ^ 18 % 64 = omega arith in
    group ∙ sym (front_field x y z more 0 18 h.1.1.1 (omega arith))
fields_are (x ∷ y ∷ z ∷ more) h (suc zero) low =
    let x_fits : x < 256 = h.0 in
    let y_fits : y < 256 = h.1.0 in
    let z_fits : z < 256 = h.1.1.0 in
    let group : x % 4 * 16 + y / 16 ≡ three x y z / 2 ^ 12 % 64 = omega arith in
    group ∙ sym (front_field x y z more 6 12 h.1.1.1 (omega arith))
fields_are (x ∷ y ∷ z ∷ more) h (suc (suc zero)) low =
    let x_fits : x < 256 = h.0 in
    let y_fits : y < 256 = h.1.0 in
    let z_fits : z < 256 = h.1.1.0 in
    let group : y % 16 * 4 + z / 64 ≡ three x y z / 2 ^ 6 % 64 = omega arith in
    group ∙ sym (front_field x y z more 12 6 h.1.1.1 (omega arith))
fields_are (x ∷ y ∷ z ∷ more) h (suc (suc (suc zero))) low =
    let x_fits : x < 256 = h.0 in
    let y_fits : y < 256 = h.1.0 in
    let z_fits : z < 256 = h.1.1.0 in
    let group : z % 64 ≡ three x y z / 2 ^ 0 % 64 = omega arith in
    group ∙ sym (front_field x y z more 18 0 h.1.1.1 (omega arith))
fields_are (x ∷ y ∷ z ∷ more) h (suc (suc (suc (suc k)))) low =
    let size = length-six_bit_groups more in
    let inside : k < length (six_bit_groups more) = omega arith in
    let within : 6 * k + 6 ≤ 8 * length more = omega arith in
    let place : 6 * suc (suc (suc (suc k))) ≡ 24 + 6 * k = omega arith in
    fields_are more h.1.1.1 k inside ∙ sym (back_field x y z more (6 * k) within)
    ∙ ap (λ (p : ℕ). field_at (x ∷ y ∷ z ∷ more) p 6) (sym place)

-- the codes that are packed are the first fields of the bytes
first_codes :
    (codes : List ℕ) (groups : List ℕ) → (groups ≡ codes) ⊎ (groups ≡ codes ++ 0 ∷ []) → (k : ℕ) → k < length codes →
    (k < length groups) × (get_or codes k 0 ≡ get_or groups k 0)
first_codes codes groups (inl e) k low = (rw e low, ap (λ (xs : List ℕ). get_or xs k 0) (sym e))
first_codes codes groups (inr e) k low =
    let size = length-append codes (0 ∷ []) in
    (rw e (omega arith), sym (ap (λ (xs : List ℕ). get_or xs k 0) e ∙ get_or_append_left codes (0 ∷ []) 0 k low))

packed_fields :
    (codes : List ℕ) → AllByRecursion IsSixBits codes → AreFields (packed_bytes codes) codes
packed_fields codes h k low =
    let first = first_codes codes (six_bit_groups (packed_bytes codes)) (groups_of_packed codes h) k low in
    first.1 ∙ fields_are (packed_bytes codes) (packed_fits codes h) k first.0

-- zeros fill the last byte
filled :
    (codes : List ℕ) → AllByRecursion IsSixBits codes →
    number_of (packed_bytes codes) % 2 ^ (8 * length (packed_bytes codes) - 6 * length codes) ≡ 0
filled [] h = refl
filled (a ∷ []) h = omega arith
filled (a ∷ b ∷ []) h = omega arith
filled (a ∷ b ∷ c ∷ []) h = omega arith
filled (a ∷ b ∷ c ∷ d ∷ more) h =
    let bytes = packed_bytes more in
    let n = three (a * 4 + b / 16) (b % 16 * 16 + c / 4) (c % 4 * 64 + d) in
    let size = length-packed_bytes more in
    let e = 8 * length bytes - 6 * length more in
    let place : 8 * length (packed_bytes (a ∷ b ∷ c ∷ d ∷ more)) - 6 * length (a ∷ b ∷ c ∷ d ∷ more) ≡ e = omega arith in
    let whole : 8 * length bytes ≡ 6 * length more + e = omega arith in
    ap (λ (s : ℕ). number_of (packed_bytes (a ∷ b ∷ c ∷ d ∷ more)) % 2 ^ s) place
    ∙ ap (λ (x : ℕ). x % 2 ^ e) (number_of-three (a * 4 + b / 16) (b % 16 * 16 + c / 4) (c % 4 * 64 + d) bytes)
    ∙ ap (λ (s : ℕ). (n * 2 ^ s + number_of bytes) % 2 ^ e) whole
    ∙ rest_in_back n (6 * length more) e (number_of bytes)
    ∙ filled more h.1.1.1.1

pub groups_are_read : (bytes : List ℕ) → All IsByte bytes → AreRead bytes (six_bit_groups bytes)
groups_are_read bytes h = record { fields = fields_are bytes (recursion_from_All IsByte bytes h); size = length-six_bit_groups bytes }

pub packed_are_written : (codes : List ℕ) → All IsSixBits codes → AreWritten codes (packed_bytes codes)
packed_are_written codes h =
    let each = recursion_from_All IsSixBits codes h in
    record {
      are_bytes = All-from_recursion IsByte (packed_bytes codes) (packed_fits codes each);
      fields = packed_fields codes each;
      size = length-packed_bytes codes;
      filled = filled codes each;
    }
