-- The field of 256 elements. An element is a polynomial of degree below 8 over the two elements 0
-- and 1, written as a byte: bit i is the coefficient of x^i. The modulus is a polynomial of degree
-- 8, so a number from 256 to 511. A sum adds coefficients, and 1 + 1 is 0, so it is `bit_xor`.
use Rattle.std.specs.Prelude.{◌≡◌, ℕ, zero, suc, ◌+◌, ◌*◌, ◌/◌, ◌%◌, ◌^◌, ◌<◌, ◌⊎◌, bit_xor}

-- the plain product of `a` and the polynomial that the lowest `count` bits of `b` write: its
-- coefficient of x^0 times `a`, and x times the product with the rest
unfoldable pub plain_product : ℕ → ℕ → ℕ → ℕ
plain_product zero a b = 0
plain_product (suc count) a b = bit_xor (b % 2 * a) (2 * plain_product count a (b / 2))

-- the remainder of `a`, of degree below 8 + count, by the modulus: where the coefficient of x^(7 +
-- count) is 1, the modulus times x^(count - 1) is taken away, and so on down to x^8
unfoldable pub remainder : ℕ → ℕ → ℕ → ℕ
remainder zero modulus a = a
remainder (suc count) modulus a =
    remainder count modulus (bit_xor a (a / 2 ^ (8 + count) % 2 * (modulus * 2 ^ count)))

-- a remainder has degree below 8, and differs from the number by a multiple of the modulus
pub record IsRemainder (modulus a rest : ℕ) : Type 0 where
  pub fits : rest < 256
  pub times : ℕ
  pub whole : a ≡ bit_xor rest (plain_product 8 modulus times)

-- the product of the elements `a` and `b`: the remainder of their plain product by the modulus
unfoldable pub product : ℕ → ℕ → ℕ → ℕ
product modulus a b = remainder 8 modulus (plain_product 8 (a % 256) b)

-- `a` raised to the power n: the product of n times `a`
unfoldable pub power : ℕ → ℕ → ℕ → ℕ
power modulus a zero = 1
power modulus a (suc n) = product modulus (power modulus a n) a

-- sum and product make a field of the numbers below 256. What holds of all numbers is said of all:
-- a product reads the lowest eight bits of its factors.
pub record IsField (modulus : ℕ) : Type 0 where
  pub sum_fits : (a b : ℕ) → a < 256 → b < 256 → bit_xor a b < 256
  pub sum_comm : (a b : ℕ) → bit_xor a b ≡ bit_xor b a
  pub sum_assoc : (a b c : ℕ) → bit_xor (bit_xor a b) c ≡ bit_xor a (bit_xor b c)
  pub sum_zero : (a : ℕ) → bit_xor a 0 ≡ a
  pub sum_self : (a : ℕ) → bit_xor a a ≡ 0
  pub product_fits : (a b : ℕ) → product modulus a b < 256
  pub product_comm : (a b : ℕ) → product modulus a b ≡ product modulus b a
  pub product_assoc :
      (a b c : ℕ)
      → product modulus (product modulus a b) c ≡ product modulus a (product modulus b c)
  pub distributive :
      (a b c : ℕ)
      → product modulus (bit_xor a b) c ≡ bit_xor (product modulus a c) (product modulus b c)
  pub product_one : (a : ℕ) → a < 256 → product modulus 1 a ≡ a
  pub product_zero : (a : ℕ) → product modulus 0 a ≡ 0
  pub product_is_remainder :
      (a b : ℕ) → a < 256 → IsRemainder modulus (plain_product 8 a b) (product modulus a b)
  pub zero_factor :
      (a b : ℕ) → a < 256 → b < 256 → product modulus a b ≡ 0 → (a ≡ 0) ⊎ (b ≡ 0)
  pub inverse : (a : ℕ) → 0 < a → a < 256
      → (b : ℕ) × (0 < b) × (b < 256) × (product modulus a b ≡ 1)
  -- from the right
  pub product_zero_right : (a : ℕ) → product modulus a 0 ≡ 0
  pub distributive_right :
      (a b c : ℕ)
      → product modulus a (bit_xor b c) ≡ bit_xor (product modulus a b) (product modulus a c)
  pub product_turned :
      (a b c : ℕ)
      → product modulus a (product modulus b c) ≡ product modulus b (product modulus a c)
