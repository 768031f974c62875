-- Plain products, x times an element, and their products.
use Rattle.std.proofs.Common.{◌≡◌, ℕ, zero, suc, ◌+◌, ◌*◌, ◌/◌, ◌%◌, ◌^◌, ◌<◌, ◌≤◌, refl, sym, ◌∙◌, ap, ap₂, arith, inl, inr, lit<}
use Rattle.std.proofs.Math.Nat.{pow-succ', zero-mul, one-mul, mul-zero, mod-mod, mod-eq_of_lt}
use Rattle.std.proofs.Math.Numerals.{suc-eq-add-one}
use Rattle.std.proofs.Math.Pow.{pow_mono, mod-mod-pow}
use Rattle.std.specs.Int.Bits.{bit_xor, xor_zero_r, xor_mod, xor_block, xor_assoc, xor_self}
use Rattle.std.proofs.lemmas.Nat.{xor_lt, field_of, pow_pos, mod_below}
use Rattle.bit_fields.specs.Xors.{xor-shuffle}
use Rattle.gf256_core.specs.Field.{plain_product, remainder, product, IsRemainder}
use Rattle.gf256_core.proofs.Sums.{xor_double, bit_cases, times_bit_xor}
use Rattle.gf256_core.proofs.Remainders.{pow_eight, remainder-xor, remainder-small, remainder-multiple, remainder-fits, remainder-zero, step, step-is, remainder-suc, step-below}

-- the modulus has degree 8
pub record HasDegreeEight (p : ℕ) : Type 0 where
  pub low : 256 ≤ p
  pub high : p < 512

-- ---- plain products
plain-xor : (n a b c : ℕ) → plain_product n (bit_xor a b) c ≡ bit_xor (plain_product n a c) (plain_product n b c)
unfolding plain_product
plain-xor zero a b c = refl
plain-xor (suc n) a b c =
    ap₂ bit_xor (times_bit_xor c a b)
    (ap (λ (x : ℕ). 2 * x) (plain-xor n a b (c / 2)) ∙ sym (xor_double (plain_product n a (c / 2)) (plain_product n b (c / 2))))
    ∙ xor-shuffle (c % 2 * a) (c % 2 * b) (2 * plain_product n a (c / 2)) (2 * plain_product n b (c / 2))

plain-zero_left : (n b : ℕ) → plain_product n 0 b ≡ 0
unfolding plain_product
plain-zero_left zero b = refl
plain-zero_left (suc n) b =
    ap₂ bit_xor (mul-zero (b % 2)) (ap (λ (x : ℕ). 2 * x) (plain-zero_left n (b / 2)))

plain-zero_right : (n a : ℕ) → plain_product n a 0 ≡ 0
unfolding plain_product
plain-zero_right zero a = refl
plain-zero_right (suc n) a = ap₂ bit_xor (zero-mul a) (ap (λ (x : ℕ). 2 * x) (plain-zero_right n a))

-- only the lowest `n` bits of the second factor are read
plain-low_bits : (n a b : ℕ) → plain_product n a (b % 2 ^ n) ≡ plain_product n a b
unfolding plain_product
plain-low_bits zero a b = refl
plain-low_bits (suc n) a b =
    let last : b % 2 ^ suc n % 2 ≡ b % 2 =
    ap (λ (x : ℕ). b % 2 ^ x % 2) (suc-eq-add-one n) ∙ mod-mod-pow b n 1 in
    let rest : b % 2 ^ suc n / 2 ≡ b / 2 % 2 ^ n =
    ap (λ (x : ℕ). b % 2 ^ x / 2) (suc-eq-add-one n) ∙ field_of b n 1 in
    rw (last, rest) (ap (λ (x : ℕ). bit_xor (b % 2 * a) (2 * x)) (plain-low_bits n a (b / 2)))

split-bit : (b : ℕ) → bit_xor (b % 2 * 1) (2 * (b / 2)) ≡ b
split-bit b =
    let e : bit_xor (0 * 2 + b % 2) (b / 2 * 2 + 0) ≡ b / 2 * 2 + bit_xor (b % 2) 0 =
    xor_block 1 0 (b / 2) (b % 2) 0 (mod_below b 2 (lit< tt)) (lit< tt) in
    let last : 0 * 2 + b % 2 ≡ b % 2 * 1 = omega arith in
    let rest : b / 2 * 2 + 0 ≡ 2 * (b / 2) = omega arith in
    let z : bit_xor (b % 2) 0 ≡ b % 2 = xor_zero_r (b % 2) in
    let whole : b / 2 * 2 + b % 2 ≡ b = omega arith in
    cc

-- 1 times a number of n bits
plain-one : (n b : ℕ) → b < 2 ^ n → plain_product n 1 b ≡ b
unfolding plain_product
plain-one zero b h = let none : b < 1 = h in omega arith
plain-one (suc n) b h =
    let fits : b / 2 < 2 ^ n = omega (arith, pow-succ' 2 n) in
    rw (plain-one n (b / 2) fits) (split-bit b)

plain-fits : (n a b : ℕ) → a < 256 → plain_product n a b < 2 ^ (8 + n)
unfolding plain_product
plain-fits zero a b h = lit< tt
plain-fits (suc n) a b h =
    let twice : 2 ^ (8 + suc n) ≡ 2 * 2 ^ (8 + n) = omega (arith, pow_eight n, pow_eight (suc n), pow-succ' 2 n) in
    let more : 256 ≤ 2 ^ (8 + n) = omega (arith, pow_eight n, pow_pos n) in
    let rest : plain_product n a (b / 2) < 2 ^ (8 + n) = plain-fits n a (b / 2) h in
    let first : b % 2 * a < 2 ^ (8 + suc n) = elim (bit_cases b) [ inl e ↦ rw e (omega arith) | inr e ↦ rw e (omega arith) ] in
    xor_lt (8 + suc n) (b % 2 * a) (2 * plain_product n a (b / 2)) first (omega arith)

-- ---- x times a number
pub times_x : ℕ → ℕ → ℕ
times_x p a = remainder 8 p (2 * a)

pub times_x-xor : (p a b : ℕ) → times_x p (bit_xor a b) ≡ bit_xor (times_x p a) (times_x p b)
unfolding times_x
times_x-xor p a b = ap (remainder 8 p) (sym (xor_double a b)) ∙ remainder-xor 8 p (2 * a) (2 * b)

pub times_x-zero : (p : ℕ) → times_x p 0 ≡ 0
unfolding times_x
times_x-zero p = remainder-zero 8 p

pub times_x-fits : (p a : ℕ) → HasDegreeEight p → a < 256 → times_x p a < 256
unfolding times_x
times_x-fits p a d h = remainder-fits 8 p (2 * a) d.low d.high (let w : 2 * a < 65536 = omega arith in w)

times_x-multiple : (n p u : ℕ) → HasDegreeEight p → suc n < 8 → times_x p (u % 2 * (p * 2 ^ n)) ≡ 0
unfolding times_x
times_x-multiple n p u d h = elim (bit_cases u) [
  | inl e ↦ rw e (ap (λ (x : ℕ). remainder 8 p (2 * x)) (zero-mul (p * 2 ^ n)) ∙ remainder-zero 8 p)
  | inr e ↦
      let twice : p * 2 ^ suc n ≡ p * (2 * 2 ^ n) = ap (λ (x : ℕ). p * x) (pow-succ' 2 n) in
      let same : 2 * (1 * (p * 2 ^ n)) ≡ p * 2 ^ suc n = omega arith in
      rw (e, same) (remainder-multiple 8 p (suc n) d.low d.high h)
]

-- x times a remainder is x times the number, up to a multiple of the modulus
times_x-remainder : (n p a : ℕ) → HasDegreeEight p → n ≤ 7 → times_x p (remainder n p a) ≡ times_x p a
unfolding remainder
times_x-remainder zero p a d h = refl
times_x-remainder (suc n) p a d h =
    ap (times_x p) (remainder-suc n p a) ∙ times_x-remainder n p (step n p a) d (omega arith) ∙ ap (times_x p) (step-is n p a)
    ∙ times_x-xor p a (a / 2 ^ (8 + n) % 2 * (p * 2 ^ n))
    ∙ ap (bit_xor (times_x p a)) (times_x-multiple n p (a / 2 ^ (8 + n)) d (omega arith))
    ∙ xor_zero_r (times_x p a)

times_x-remainder_8 : (p a : ℕ) → HasDegreeEight p → a < 2 ^ 15 → times_x p (remainder 8 p a) ≡ times_x p a
times_x-remainder_8 p a d h =
    ap (times_x p) (remainder-suc 7 p a ∙ ap (remainder 7 p) (step-below 7 p a h)) ∙ times_x-remainder 7 p a d (omega arith)

times_x-bit : (p u a : ℕ) → times_x p (u % 2 * a) ≡ u % 2 * times_x p a
times_x-bit p u a = elim (bit_cases u) [
  | inl e ↦ rw e (ap (times_x p) (zero-mul a) ∙ times_x-zero p ∙ sym (zero-mul (times_x p a)))
  | inr e ↦ rw e (ap (times_x p) (one-mul a) ∙ sym (one-mul (times_x p a)))
]

-- ---- the remainder of a plain product, by its first bit and the rest
reduced : ℕ → ℕ → ℕ → ℕ → ℕ
reduced n p a b = remainder 8 p (plain_product n a b)

reduced-zero : (p a b : ℕ) → reduced 0 p a b ≡ 0
unfolding reduced plain_product
reduced-zero p a b = remainder-zero 8 p

bit_times-fits : (u a : ℕ) → a < 256 → u % 2 * a < 256
bit_times-fits u a h = elim (bit_cases u) [ inl e ↦ rw e (omega arith) | inr e ↦ rw e (omega arith) ]

reduced-suc :
    (n p a b : ℕ) → HasDegreeEight p → n ≤ 7 → a < 256
    → reduced (suc n) p a b ≡ bit_xor (b % 2 * a) (times_x p (reduced n p a (b / 2)))
unfolding reduced plain_product times_x
reduced-suc n p a b d h fits =
    let lower : plain_product n a (b / 2) < 2 ^ (8 + n) = plain-fits n a (b / 2) fits in
    let at_most : 8 + n ≤ 15 = omega arith in
    let bound : 2 ^ (8 + n) ≤ 2 ^ 15 = pow_mono at_most in
    let here : plain_product n a (b / 2) < 2 ^ 15 = omega arith in
    remainder-xor 8 p (b % 2 * a) (2 * plain_product n a (b / 2))
    ∙ ap₂ bit_xor (remainder-small 8 p (b % 2 * a) (bit_times-fits b a fits))
    (sym (times_x-remainder_8 p (plain_product n a (b / 2)) d here))

reduced-times_x :
    (n p a b : ℕ) → HasDegreeEight p → n ≤ 8 → a < 256 → reduced n p (times_x p a) b ≡ times_x p (reduced n p a b)
reduced-times_x zero p a b d h fits =
    reduced-zero p (times_x p a) b ∙ sym (ap (times_x p) (reduced-zero p a b) ∙ times_x-zero p)
reduced-times_x (suc n) p a b d h fits =
    let more : n ≤ 7 = omega arith in
    reduced-suc n p (times_x p a) b d more (times_x-fits p a d fits)
    ∙ ap₂ bit_xor (sym (times_x-bit p b a)) (ap (times_x p) (reduced-times_x n p a (b / 2) d (omega arith) fits))
    ∙ sym (times_x-xor p (b % 2 * a) (times_x p (reduced n p a (b / 2))))
    ∙ ap (times_x p) (sym (reduced-suc n p a b d more fits))

-- ---- products
pub product-low_left : (p a b : ℕ) → product p (a % 256) b ≡ product p a b
unfolding product
product-low_left p a b = ap (λ (x : ℕ). remainder 8 p (plain_product 8 x b)) (mod-mod a 256)

pub product-low_right : (p a b : ℕ) → product p a (b % 256) ≡ product p a b
unfolding product
product-low_right p a b = ap (remainder 8 p) (plain-low_bits 8 (a % 256) b)

pub product-fits : (p a b : ℕ) → HasDegreeEight p → product p a b < 256
unfolding product
product-fits p a b d = remainder-fits 8 p _ d.low d.high (plain-fits 8 (a % 256) b (mod_below a 256 (lit< tt)))

pub product-zero_left : (p b : ℕ) → product p 0 b ≡ 0
unfolding product
product-zero_left p b = ap (remainder 8 p) (plain-zero_left 8 b) ∙ remainder-zero 8 p

pub product-zero_right : (p a : ℕ) → product p a 0 ≡ 0
unfolding product
product-zero_right p a = ap (remainder 8 p) (plain-zero_right 8 (a % 256)) ∙ remainder-zero 8 p

pub product-one_left : (p b : ℕ) → b < 256 → product p 1 b ≡ b
unfolding product
product-one_left p b h = ap (remainder 8 p) (plain-one 8 b h) ∙ remainder-small 8 p b h

pub product-xor_left : (p a b c : ℕ) → product p (bit_xor a b) c ≡ bit_xor (product p a c) (product p b c)
unfolding product
product-xor_left p a b c =
    ap (λ (x : ℕ). remainder 8 p (plain_product 8 x c)) (xor_mod a b 8)
    ∙ ap (remainder 8 p) (plain-xor 8 (a % 256) (b % 256) c)
    ∙ remainder-xor 8 p (plain_product 8 (a % 256) c) (plain_product 8 (b % 256) c)

pub product-times_x : (p a b : ℕ) → HasDegreeEight p → a < 256 → product p (times_x p a) b ≡ times_x p (product p a b)
unfolding product reduced
product-times_x p a b d h =
    ap (λ (x : ℕ). reduced 8 p x b) (mod-eq_of_lt (times_x-fits p a d h))
    ∙ reduced-times_x 8 p a b d (omega arith) h
    ∙ ap (λ (x : ℕ). times_x p (reduced 8 p x b)) (sym (mod-eq_of_lt h))

plain-two : (n a : ℕ) → plain_product (suc (suc n)) a 2 ≡ 2 * a
unfolding plain_product
plain-two n a =
    let none : 0 * a ≡ 0 = zero-mul a in
    let once : 1 * a ≡ a = one-mul a in
    rw (none, once, plain-zero_right n a) (ap (λ (x : ℕ). 2 * x) (xor_zero_r a))

-- twice a is x times a
pub product-two : (p a : ℕ) → a < 256 → product p a 2 ≡ times_x p a
unfolding product times_x
product-two p a h = ap (remainder 8 p) (plain-two 6 (a % 256) ∙ ap (λ (x : ℕ). 2 * x) (mod-eq_of_lt h))

-- ---- what a remainder is
plain-suc : (n a b : ℕ) → plain_product (suc n) a b ≡ bit_xor (b % 2 * a) (2 * plain_product n a (b / 2))
unfolding plain_product
plain-suc n a b = refl

-- a plain product by a number with one bit more
plain-top :
    (n a q u : ℕ) → q < 2 ^ n → u < 2
    → plain_product (suc n) a (q + u * 2 ^ n) ≡ bit_xor (plain_product n a q) (u * (a * 2 ^ n))
unfolding plain_product
plain-top zero a q u h h' =
    let none : q < 1 = h in
    let bit : (q + u * 1) % 2 ≡ u = omega arith in
    let once : u * a ≡ u * (a * 1) = ap (λ (x : ℕ). u * x) (let e : a ≡ a * 1 = omega arith in e) in
    rw bit (xor_zero_r (u * a) ∙ once)
plain-top (suc n) a q u h h' =
    let more : u * 2 ^ suc n ≡ u * (2 * 2 ^ n) = ap (λ (x : ℕ). u * x) (pow-succ' 2 n) in
    let twice : u * (2 * 2 ^ n) ≡ 2 * (u * 2 ^ n) = omega arith in
    let last : (q + u * 2 ^ suc n) % 2 ≡ q % 2 = omega arith in
    let rest : (q + u * 2 ^ suc n) / 2 ≡ q / 2 + u * 2 ^ n = omega arith in
    let below : q / 2 < 2 ^ n = omega (arith, pow-succ' 2 n) in
    let term : 2 * (u * (a * 2 ^ n)) ≡ u * (a * 2 ^ suc n) =
    (let e : 2 * (u * (a * 2 ^ n)) ≡ u * (a * (2 * 2 ^ n)) = omega arith in e) ∙ ap (λ (x : ℕ). u * (a * x)) (sym (pow-succ' 2 n)) in
    plain-suc (suc n) a (q + u * 2 ^ suc n)
    ∙ ap₂ (λ (r d : ℕ). bit_xor (r * a) (2 * plain_product (suc n) a d)) last rest
    ∙ ap (λ (y : ℕ). bit_xor (q % 2 * a) (2 * y)) (plain-top n a (q / 2) u below h')
    ∙ ap (bit_xor (q % 2 * a)) (sym (xor_double (plain_product n a (q / 2)) (u * (a * 2 ^ n))))
    ∙ sym (xor_assoc (q % 2 * a) (2 * plain_product n a (q / 2)) (2 * (u * (a * 2 ^ n))))
    ∙ ap₂ bit_xor (sym (plain-suc n a q)) term

record Multiple (n p a : ℕ) : Type 0 where
  times : ℕ
  fits : times < 2 ^ n
  whole : a ≡ bit_xor (remainder n p a) (plain_product n p times)

one_bit_more : (q u m : ℕ) → q < m → u % 2 * m + q < 2 * m
one_bit_more q u m h = elim (bit_cases u) [ inl e ↦ rw e (omega arith) | inr e ↦ rw e (omega arith) ]

remainder-Multiple : (n p a : ℕ) → Multiple n p a
unfolding remainder plain_product
remainder-Multiple zero p a = record { times = 0; fits = lit< tt; whole = sym (xor_zero_r a) }
remainder-Multiple (suc n) p a =
    let m = remainder-Multiple n p (step n p a) in
    let q : m.times < 2 ^ n = m.fits in
    let bound : a / 2 ^ (8 + n) % 2 * 2 ^ n + m.times < 2 * 2 ^ n = one_bit_more m.times (a / 2 ^ (8 + n)) (2 ^ n) q in
    record {
      times = m.times + a / 2 ^ (8 + n) % 2 * 2 ^ n;
      fits = rw (pow-succ' 2 n) (omega arith);
      whole =
          sym (xor_zero_r a)
          ∙ ap (bit_xor a) (sym (xor_self (a / 2 ^ (8 + n) % 2 * (p * 2 ^ n))))
          ∙ sym (xor_assoc a (a / 2 ^ (8 + n) % 2 * (p * 2 ^ n)) (a / 2 ^ (8 + n) % 2 * (p * 2 ^ n)))
          ∙ ap (λ (x : ℕ). bit_xor x (a / 2 ^ (8 + n) % 2 * (p * 2 ^ n))) (sym (step-is n p a) ∙ m.whole)
          ∙ xor_assoc (remainder n p (step n p a)) (plain_product n p m.times) (a / 2 ^ (8 + n) % 2 * (p * 2 ^ n))
          ∙ ap₂ bit_xor (sym (remainder-suc n p a))
          (sym (plain-top n p m.times (a / 2 ^ (8 + n) % 2) q (mod_below (a / 2 ^ (8 + n)) 2 (lit< tt))));
    }

pub product-IsRemainder :
    (p a b : ℕ) → HasDegreeEight p → a < 256 → IsRemainder p (plain_product 8 a b) (product p a b)
unfolding product
product-IsRemainder p a b d h =
    let m = remainder-Multiple 8 p (plain_product 8 (a % 256) b) in
    let low : a % 256 ≡ a = mod-eq_of_lt h in
    record {
      fits = product-fits p a b d;
      times = m.times;
      whole = ap (λ (x : ℕ). plain_product 8 x b) (sym low) ∙ m.whole;
    }
