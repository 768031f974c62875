-- The remainder by the modulus: that of a sum is the sum of those of its parts, a number below 256 is its own, a
-- multiple of the modulus has none, and x times may be taken before it or after it.
use Rattle.std.proofs.Common.{◌≡◌, ℕ, zero, suc, ◌+◌, ◌*◌, ◌/◌, ◌%◌, ◌^◌, ◌<◌, ◌≤◌, refl, sym, ◌∙◌, ap, arith, inl, inr, lit<, ◌-◌, ap₂}
use Rattle.std.proofs.Math.Nat.{pow-succ', div-eq_of_lt, zero-mul, one-mul, add-mul}
use Rattle.std.specs.Int.Bits.{bit_xor, xor_zero_r, xor_self, xor_shr, xor_mod, xor_block}
use Rattle.std.proofs.lemmas.Nat.{xor_lt, pow-add, pow_pos, div-mul-add, shl_below}
use Rattle.std.proofs.lemmas.Bool.{cases_eq, cases_lt}
use Rattle.std.proofs.Math.Pow.{pow_mono}
use Rattle.bit_fields.specs.Xors.{xor-shuffle}
use Rattle.gf256_core.specs.Field.{remainder}
use Rattle.gf256_core.proofs.Sums.{bit_times_xor}

-- one step of the remainder
pub step : ℕ → ℕ → ℕ → ℕ
step n p a = bit_xor a (a / 2 ^ (8 + n) % 2 * (p * 2 ^ n))

pub step-is : (n p a : ℕ) → step n p a ≡ bit_xor a (a / 2 ^ (8 + n) % 2 * (p * 2 ^ n))
unfolding step
step-is n p a = refl

pub remainder-suc : (n p a : ℕ) → remainder (suc n) p a ≡ remainder n p (step n p a)
unfolding remainder step
remainder-suc n p a = refl

step-xor : (n p a b : ℕ) → step n p (bit_xor a b) ≡ bit_xor (step n p a) (step n p b)
unfolding step
step-xor n p a b =
    let k : ℕ = 8 + n in
    let bits : bit_xor a b / 2 ^ (8 + n) % 2 ≡ bit_xor (a / 2 ^ (8 + n) % 2) (b / 2 ^ (8 + n) % 2) =
    ap (λ (x : ℕ). x % 2) (xor_shr a b (8 + n)) ∙ xor_mod (a / 2 ^ (8 + n)) (b / 2 ^ (8 + n)) 1 in
    ap (λ (x : ℕ). bit_xor (bit_xor a b) (x * (p * 2 ^ n))) bits
    ∙ ap (bit_xor (bit_xor a b)) (sym (bit_times_xor (a / 2 ^ (8 + n)) (b / 2 ^ (8 + n)) (p * 2 ^ n)))
    ∙ xor-shuffle a b _ _

pub remainder-xor : (n p a b : ℕ) → remainder n p (bit_xor a b) ≡ bit_xor (remainder n p a) (remainder n p b)
unfolding remainder
remainder-xor zero p a b = refl
remainder-xor (suc n) p a b =
    remainder-suc n p (bit_xor a b) ∙ ap (remainder n p) (step-xor n p a b) ∙ remainder-xor n p (step n p a) (step n p b)
    ∙ sym (ap (bit_xor (remainder (suc n) p a)) (remainder-suc n p b) ∙ ap (λ (x : ℕ). bit_xor x (remainder n p (step n p b))) (remainder-suc n p a))

-- 2 ^ (8 + n) against 2 ^ n
pub pow_eight : (n : ℕ) → 2 ^ (8 + n) ≡ 256 * 2 ^ n
pow_eight n = pow-add 2 8 n

pub step-below : (n p a : ℕ) → a < 2 ^ (8 + n) → step n p a ≡ a
unfolding step
step-below n p a h =
    let q : a / 2 ^ (8 + n) ≡ 0 = div-eq_of_lt h in
    let none : 0 * (p * 2 ^ n) ≡ 0 = zero-mul (p * 2 ^ n) in
    rw q (ap (bit_xor a) none ∙ xor_zero_r a)

step-above : (n p a : ℕ) → a / 2 ^ (8 + n) ≡ 1 → step n p a ≡ bit_xor a (p * 2 ^ n)
unfolding step
step-above n p a q = rw q (ap (bit_xor a) (one-mul (p * 2 ^ n)))

pub remainder-small : (n p a : ℕ) → a < 256 → remainder n p a ≡ a
unfolding remainder
remainder-small zero p a h = refl
remainder-small (suc n) p a h =
    let fits : a < 2 ^ (8 + n) = omega (arith, pow_eight n, pow_pos n) in
    remainder-suc n p a ∙ ap (remainder n p) (step-below n p a fits) ∙ remainder-small n p a h

-- the modulus times 2 ^ n is 2 ^ (8 + n) and a lower part
record Split (n p : ℕ) : Type 0 where
  low : ℕ
  fits : low < 2 ^ (8 + n)
  whole : p * 2 ^ n ≡ 1 * 2 ^ (8 + n) + low

modulus-split : (n p : ℕ) → 256 ≤ p → p < 512 → Split n p
modulus-split n p low high =
    let l : p - 256 < 2 ^ 8 = omega arith in
    let e : p ≡ 256 + (p - 256) = omega arith in
    let whole : (256 + (p - 256)) * 2 ^ n ≡ 256 * 2 ^ n + (p - 256) * 2 ^ n = add-mul 256 (p - 256) (2 ^ n) in
    let same : p * 2 ^ n ≡ (256 + (p - 256)) * 2 ^ n = ap (λ (x : ℕ). x * 2 ^ n) e in
    record {
      low = (p - 256) * 2 ^ n;
      fits = shl_below (p - 256) 8 n l;
      whole = omega (arith, pow_eight n, whole, same);
    }

step-modulus : (n p : ℕ) → 256 ≤ p → p < 512 → step n p (p * 2 ^ n) ≡ 0
step-modulus n p low high =
    let s = modulus-split n p low high in
    let q : p * 2 ^ n / 2 ^ (8 + n) ≡ 1 = ap (λ (x : ℕ). x / 2 ^ (8 + n)) s.whole ∙ div-mul-add 1 (2 ^ (8 + n)) s.low s.fits in
    step-above n p (p * 2 ^ n) q ∙ xor_self (p * 2 ^ n)

pub remainder-zero : (n p : ℕ) → remainder n p 0 ≡ 0
remainder-zero n p = remainder-small n p 0 (lit< tt)

pub remainder-multiple : (n p k : ℕ) → 256 ≤ p → p < 512 → k < n → remainder n p (p * 2 ^ k) ≡ 0
remainder-multiple zero p k low high h = absurd (omega arith)
remainder-multiple (suc n) p k low high h = elim (cases_eq k n) [
  | inl e ↦
      rw e (remainder-suc n p (p * 2 ^ n) ∙ ap (remainder n p) (step-modulus n p low high) ∙ remainder-zero n p)
  | inr other ↦
      let k_fits : k < n = omega arith in
      let here : p * 2 ^ k < 2 ^ (9 + k) = shl_below p 9 k high in
      let below : 2 ^ (9 + k) ≤ 2 ^ (8 + n) = pow_mono (omega arith) in
      let fits : p * 2 ^ k < 2 ^ (8 + n) = omega arith in
      remainder-suc n p (p * 2 ^ k) ∙ ap (remainder n p) (step-below n p (p * 2 ^ k) fits)
      ∙ remainder-multiple n p k low high k_fits
]

zero_part : (m n : ℕ) → 0 * m + n ≡ n
zero_part m n = omega arith

step-fits : (n p a : ℕ) → 256 ≤ p → p < 512 → a < 2 ^ (8 + suc n) → step n p a < 2 ^ (8 + n)
step-fits n p a low high h = elim (cases_lt a (2 ^ (8 + n))) [
  | inl below ↦ rw (step-below n p a below) below
  | inr above ↦
      let s = modulus-split n p low high in
      let twice : 2 ^ (8 + suc n) ≡ 2 * 2 ^ (8 + n) = omega (arith, pow_eight n, pow_eight (suc n), pow-succ' 2 n) in
      let whole : a ≡ 1 * 2 ^ (8 + n) + (a - 2 ^ (8 + n)) = omega arith in
      let rest : a - 2 ^ (8 + n) < 2 ^ (8 + n) = omega arith in
      let q : a / 2 ^ (8 + n) ≡ 1 =
      ap (λ (x : ℕ). x / 2 ^ (8 + n)) whole ∙ div-mul-add 1 (2 ^ (8 + n)) (a - 2 ^ (8 + n)) rest in
      let sum : step n p a ≡ bit_xor (a - 2 ^ (8 + n)) s.low =
      step-above n p a q
      ∙ ap₂ bit_xor whole s.whole
      ∙ xor_block (8 + n) 1 1 (a - 2 ^ (8 + n)) s.low rest s.fits
      ∙ zero_part (2 ^ (8 + n)) (bit_xor (a - 2 ^ (8 + n)) s.low) in
      rw sum (xor_lt (8 + n) (a - 2 ^ (8 + n)) s.low rest s.fits)
]

pub remainder-fits : (n p a : ℕ) → 256 ≤ p → p < 512 → a < 2 ^ (8 + n) → remainder n p a < 256
unfolding remainder
remainder-fits zero p a low high h = h
remainder-fits (suc n) p a low high h =
    rw (remainder-suc n p a) (remainder-fits n p (step n p a) low high (step-fits n p a low high h))
