-- Polynomials over the field of the uplink. A polynomial is a list of its coefficients, lowest
-- power first. Zeros at the end of a list change nothing, and the list with none at its end is the
-- one that stands for the polynomial.
use Rattle.std.specs.Prelude.{◌≡◌, ℕ, zero, suc, ◌<◌, ◌≤◌, List, [], ◌∷◌, length, slice_index}
use Rattle.std.specs.Prelude.{bit_xor, Option, Some, None}
use Rattle.gf256_core.specs.Field.{product, power}

-- the product in the field whose modulus is x^8 + x^7 + x^2 + x + 1
abbrev pub element_product : ℕ → ℕ → ℕ
element_product a b = product 0x187 a b

-- an element raised to n
abbrev pub element_power : ℕ → ℕ → ℕ
element_power a n = power 0x187 a n

-- a list without the zeros at its end
unfoldable pub prepended_coefficients : ℕ → List ℕ → List ℕ
prepended_coefficients zero [] = []
prepended_coefficients zero (d ∷ ds) = zero ∷ d ∷ ds
prepended_coefficients (suc c) ds = suc c ∷ ds

unfoldable pub trimmed_coefficients : List ℕ → List ℕ
trimmed_coefficients [] = []
trimmed_coefficients (c ∷ cs) = prepended_coefficients c (trimmed_coefficients cs)

-- the coefficients of each power are added
unfoldable pub sum_of : List ℕ → List ℕ → List ℕ
sum_of [] ys = ys
sum_of (x ∷ xs) [] = x ∷ xs
sum_of (x ∷ xs) (y ∷ ys) = bit_xor x y ∷ sum_of xs ys

-- each coefficient times an element
unfoldable pub scaled_coefficients : ℕ → List ℕ → List ℕ
scaled_coefficients c [] = []
scaled_coefficients c (x ∷ xs) = element_product c x ∷ scaled_coefficients c xs

-- x times a polynomial
unfoldable pub shifted_coefficients : List ℕ → List ℕ
shifted_coefficients [] = []
shifted_coefficients (c ∷ cs) = 0 ∷ c ∷ cs

-- x^n times a polynomial
unfoldable pub raised_coefficients : ℕ → List ℕ → List ℕ
raised_coefficients zero cs = cs
raised_coefficients (suc n) cs = shifted_coefficients (raised_coefficients n cs)

-- the first coefficient times the second factor, and x times the product with the rest
unfoldable pub list_product : List ℕ → List ℕ → List ℕ
list_product [] ys = []
list_product (x ∷ xs) ys =
    sum_of (scaled_coefficients x ys) (shifted_coefficients (list_product xs ys))

-- the value at an element: the sum of the coefficients, each times the power of the element
unfoldable pub terms_from : ℕ → List ℕ → ℕ → ℕ
terms_from n [] at = 0
terms_from n (c ∷ cs) at =
    bit_xor (element_product c (element_power at n)) (terms_from (suc n) cs at)

unfoldable pub value_at : List ℕ → ℕ → ℕ
value_at cs at = terms_from 0 cs at

-- n times an element: it is added n times
unfoldable pub added_copies : ℕ → ℕ → ℕ
added_copies zero c = 0
added_copies (suc n) c = bit_xor c (added_copies n c)

-- the derivative of c x^n is n c x^(n - 1)
unfoldable pub derivative_from : ℕ → List ℕ → List ℕ
derivative_from n [] = []
derivative_from n (c ∷ cs) = added_copies n c ∷ derivative_from (suc n) cs

unfoldable pub derivative_of : List ℕ → List ℕ
derivative_of [] = []
derivative_of (c ∷ cs) = derivative_from 1 cs

-- the greatest power with a coefficient that is not 0, in a list with no zeros at its end
abbrev pub degree_of : List ℕ → Option ℕ
degree_of [] = None
degree_of (c ∷ cs) = Some (length cs)

-- a list of at most `capacity` bytes, the last one not 0
pub record IsPolynomial (capacity : ℕ) (cs : List ℕ) : Type 0 where
  pub low : 1 ≤ capacity
  pub high : capacity ≤ 1024
  pub fits : length cs ≤ capacity
  pub bytes : (k : ℕ) → slice_index cs k < 256
  pub no_end_zeros : trimmed_coefficients cs ≡ cs

-- the dividend is the quotient times the divisor and the rest, which is zero or of lower degree
-- than the divisor
pub record IsDivision (dividend divisor quotient rest : List ℕ) : Type 0 where
  pub whole : trimmed_coefficients (sum_of (list_product quotient divisor) rest)
      ≡ trimmed_coefficients dividend
  pub lower : length rest < length divisor
