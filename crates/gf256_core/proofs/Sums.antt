-- Sums of polynomials over two elements, beside doubling and bits.
use Rattle.std.proofs.Common.{◌≡◌, ℕ, ◌*◌, ◌%◌, ◌^◌, arith, inl, inr, ◌⊎◌}
use Rattle.std.specs.Int.Bits.{bit_xor, xor_zero_r, xor_self}
use Rattle.bit_fields.specs.Xors.{xor-shift}

pub xor_double : (a b : ℕ) → bit_xor (2 * a) (2 * b) ≡ 2 * bit_xor a b
xor_double a b =
    let e : bit_xor (a * 2 ^ 1) (b * 2 ^ 1) ≡ bit_xor a b * 2 ^ 1 = xor-shift 1 a b in
    let ea : a * 2 ^ 1 ≡ 2 * a = omega arith in
    let eb : b * 2 ^ 1 ≡ 2 * b = omega arith in
    let ec : bit_xor a b * 2 ^ 1 ≡ 2 * bit_xor a b = omega arith in
    cc

-- a bit is 0 or 1
pub bit_cases : (n : ℕ) → (n % 2 ≡ 0) ⊎ (n % 2 ≡ 1)
bit_cases n = search arith

-- (u + v) * m, for bits u and v
pub bit_times_xor : (u v m : ℕ) → bit_xor (u % 2 * m) (v % 2 * m) ≡ bit_xor (u % 2) (v % 2) * m
bit_times_xor u v m = elim (bit_cases u) [
  | inl eu ↦ rw eu (elim (bit_cases v) [ inl ev ↦ rw ev (grind arith) | inr ev ↦ rw ev (grind arith) ])
  | inr eu ↦ rw eu (elim (bit_cases v) [ inl ev ↦ rw ev (grind (arith, xor_zero_r)) | inr ev ↦ rw ev (grind (arith, xor_self)) ])
]

pub times_bit_xor : (u a b : ℕ) → u % 2 * bit_xor a b ≡ bit_xor (u % 2 * a) (u % 2 * b)
times_bit_xor u a b = elim (bit_cases u) [ inl eu ↦ rw eu (grind arith) | inr eu ↦ rw eu (grind arith) ]
