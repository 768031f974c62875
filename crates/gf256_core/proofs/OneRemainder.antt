-- A remainder is the one that the definition computes: a multiple of the modulus has the remainder 0.
use Rattle.std.proofs.Common.{◌≡◌, ℕ, zero, suc, ◌+◌, ◌*◌, ◌/◌, ◌%◌, ◌^◌, ◌<◌, ◌≤◌, refl, sym, ◌∙◌, ap, ap₂, arith, inl, inr}
use Rattle.std.proofs.Math.Nat.{pow-succ'}
use Rattle.std.specs.Int.Bits.{bit_xor, xor_zero_r}
use Rattle.gf256_core.specs.Field.{plain_product, remainder, IsRemainder}
use Rattle.gf256_core.specs.Laws.{HasOneRemainder}
use Rattle.gf256_core.proofs.Sums.{xor_double, bit_cases}
use Rattle.gf256_core.proofs.Remainders.{remainder-xor, remainder-small, remainder-zero, remainder-multiple}

plain-double : (n a b : ℕ) → plain_product n (2 * a) b ≡ 2 * plain_product n a b
unfolding plain_product
plain-double zero a b = refl
plain-double (suc n) a b =
    ap₂ bit_xor (let e : b % 2 * (2 * a) ≡ 2 * (b % 2 * a) = omega arith in e) (ap (λ (x : ℕ). 2 * x) (plain-double n a (b / 2)))
    ∙ xor_double (b % 2 * a) (2 * plain_product n a (b / 2))

bit_multiple : (p k u : ℕ) → 256 ≤ p → p < 512 → k < 8 → remainder 8 p (u % 2 * (p * 2 ^ k)) ≡ 0
bit_multiple p k u low high h = elim (bit_cases u) [
  | inl none ↦
      ap (λ (x : ℕ). remainder 8 p (x * (p * 2 ^ k))) none
      ∙ ap (remainder 8 p) (let e : 0 * (p * 2 ^ k) ≡ 0 = omega arith in e) ∙ remainder-zero 8 p
  | inr one ↦
      ap (λ (x : ℕ). remainder 8 p (x * (p * 2 ^ k))) one
      ∙ ap (remainder 8 p) (let e : 1 * (p * 2 ^ k) ≡ p * 2 ^ k = omega arith in e) ∙ remainder-multiple 8 p k low high h
]

product-zero : (n p k b : ℕ) → 256 ≤ p → p < 512 → k + n ≤ 8 → remainder 8 p (plain_product n (p * 2 ^ k) b) ≡ 0
unfolding plain_product
product-zero zero p k b low high h = remainder-zero 8 p
product-zero (suc n) p k b low high h =
    let up : 2 * (p * 2 ^ k) ≡ p * 2 ^ suc k =
    (let e : 2 * (p * 2 ^ k) ≡ p * (2 * 2 ^ k) = omega arith in e) ∙ ap (λ (x : ℕ). p * x) (sym (pow-succ' 2 k)) in
    remainder-xor 8 p (b % 2 * (p * 2 ^ k)) (2 * plain_product n (p * 2 ^ k) (b / 2))
    ∙ ap₂ bit_xor (bit_multiple p k b low high (omega arith))
    (ap (remainder 8 p) (sym (plain-double n (p * 2 ^ k) (b / 2)) ∙ ap (λ (x : ℕ). plain_product n x (b / 2)) up)
    ∙ product-zero n p (suc k) (b / 2) low high (omega arith))
    ∙ xor_zero_r 0

rest_is : (p a rest : ℕ) → 256 ≤ p → p < 512 → IsRemainder p a rest → rest ≡ remainder 8 p a
rest_is p a rest low high is =
    sym (ap (remainder 8 p) is.whole
    ∙ remainder-xor 8 p rest (plain_product 8 p is.times)
    ∙ ap₂ bit_xor (remainder-small 8 p rest is.fits)
    (ap (λ (x : ℕ). remainder 8 p (plain_product 8 x is.times)) (let e : p ≡ p * 1 = omega arith in e)
    ∙ product-zero 8 p 0 is.times low high (omega arith))
    ∙ xor_zero_r rest)

pub one_remainder : (p : ℕ) → 256 ≤ p → p < 512 → HasOneRemainder p
one_remainder p low high a rest other is is' = rest_is p a rest low high is ∙ sym (rest_is p a other low high is')
