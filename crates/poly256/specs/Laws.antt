-- Laws of polynomials. Those of sums and products hold of all lists, as they stand.
use Rattle.std.specs.Prelude.{◌≡◌, ◌≢◌, ℕ, suc, ◌+◌, ◌-◌, ◌<◌, ◌≤◌, List, [], ◌∷◌, length}
use Rattle.std.specs.Prelude.{slice_index, bit_xor}
use Rattle.poly256.specs.Polynomial.{element_product, trimmed_coefficients, sum_of}
use Rattle.poly256.specs.Polynomial.{scaled_coefficients, shifted_coefficients, raised_coefficients}
use Rattle.poly256.specs.Polynomial.{list_product, value_at, IsDivision}

pub record IsRing : Type 0 where
  pub sum_comm : (xs ys : List ℕ) → sum_of xs ys ≡ sum_of ys xs
  pub sum_assoc : (xs ys zs : List ℕ) → sum_of (sum_of xs ys) zs ≡ sum_of xs (sum_of ys zs)
  pub sum_zero : (xs : List ℕ) → sum_of xs [] ≡ xs
  pub sum_self : (xs : List ℕ) → trimmed_coefficients (sum_of xs xs) ≡ []
  pub product_comm : (xs ys : List ℕ) → list_product xs ys ≡ list_product ys xs
  pub product_assoc : (xs ys zs : List ℕ)
      → list_product (list_product xs ys) zs ≡ list_product xs (list_product ys zs)
  pub product_zero : (xs : List ℕ) → list_product xs [] ≡ []
  pub product_one : (xs : List ℕ) → ((k : ℕ) → slice_index xs k < 256)
      → list_product (1 ∷ []) xs ≡ xs
  pub product_constant : (c : ℕ) (xs : List ℕ) → list_product (c ∷ []) xs ≡ scaled_coefficients c xs
  pub product_shifted : (xs ys : List ℕ)
      → list_product (shifted_coefficients xs) ys ≡ shifted_coefficients (list_product xs ys)
  pub distributive :
      (xs ys zs : List ℕ)
      → list_product (sum_of xs ys) zs ≡ sum_of (list_product xs zs) (list_product ys zs)

-- zeros at the end change no result
pub record IgnoresEndZeros : Type 0 where
  pub trimmed_twice : (xs : List ℕ)
      → trimmed_coefficients (trimmed_coefficients xs) ≡ trimmed_coefficients xs
  pub coefficients : (xs : List ℕ) (k : ℕ)
      → slice_index (trimmed_coefficients xs) k ≡ slice_index xs k
  pub by_coefficients :
      (xs ys : List ℕ) → ((k : ℕ) → slice_index xs k ≡ slice_index ys k)
      → trimmed_coefficients xs ≡ trimmed_coefficients ys
  pub sums : (xs ys : List ℕ)
      → trimmed_coefficients (sum_of (trimmed_coefficients xs) ys)
      ≡ trimmed_coefficients (sum_of xs ys)
  pub products : (xs ys : List ℕ)
      → trimmed_coefficients (list_product (trimmed_coefficients xs) ys)
      ≡ trimmed_coefficients (list_product xs ys)
  pub values : (xs : List ℕ) (at : ℕ) → value_at (trimmed_coefficients xs) at ≡ value_at xs at

-- degrees, and the coefficients of sums and products: a list with no zeros at its end has one
-- member more than its degree
pub record HasDegrees : Type 0 where
  pub trimmed_is_no_longer : (xs : List ℕ) → length (trimmed_coefficients xs) ≤ length xs
  pub last_not_zero : (xs : List ℕ) → trimmed_coefficients xs ≡ xs → 0 < length xs
      → 0 < slice_index xs (length xs - 1)
  pub sum_coefficient : (xs ys : List ℕ) (k : ℕ)
      → slice_index (sum_of xs ys) k ≡ bit_xor (slice_index xs k) (slice_index ys k)
  pub sum_at_most : (xs ys : List ℕ) (n : ℕ) → length xs ≤ n → length ys ≤ n
      → length (sum_of xs ys) ≤ n
  pub sum_of_lower :
      (xs ys : List ℕ) → trimmed_coefficients xs ≡ xs → length ys < length xs
      → (trimmed_coefficients (sum_of xs ys) ≡ sum_of xs ys) × (length (sum_of xs ys) ≡ length xs)
  pub product_coefficient_first :
      (x : ℕ) (xs ys : List ℕ)
      → slice_index (list_product (x ∷ xs) ys) 0 ≡ element_product x (slice_index ys 0)
  pub product_coefficient :
      (x : ℕ) (xs ys : List ℕ) (k : ℕ)
      → slice_index (list_product (x ∷ xs) ys) (suc k)
      ≡ bit_xor (element_product x (slice_index ys (suc k))) (slice_index (list_product xs ys) k)
  pub product_length :
      (xs ys : List ℕ) → 0 < length xs → 0 < length ys
      → length (list_product xs ys) + 1 ≡ length xs + length ys
  pub product_keeps :
      (xs ys : List ℕ) → ((k : ℕ) → slice_index xs k < 256) → ((k : ℕ) → slice_index ys k < 256)
      → trimmed_coefficients xs ≡ xs → trimmed_coefficients ys ≡ ys
      → trimmed_coefficients (list_product xs ys) ≡ list_product xs ys
  pub one_division :
      (dividend divisor quotient rest other_quotient other_rest : List ℕ)
      → trimmed_coefficients divisor ≡ divisor → ((k : ℕ) → slice_index divisor k < 256)
      → trimmed_coefficients quotient ≡ quotient → ((k : ℕ) → slice_index quotient k < 256)
      → trimmed_coefficients rest ≡ rest
      → trimmed_coefficients other_quotient ≡ other_quotient
      → ((k : ℕ) → slice_index other_quotient k < 256)
      → trimmed_coefficients other_rest ≡ other_rest
      → IsDivision dividend divisor quotient rest
      → IsDivision dividend divisor other_quotient other_rest
      → (quotient ≡ other_quotient) × (rest ≡ other_rest)
  -- sums, multiples, and products with a power of x
  pub sum_length :
      (xs ys : List ℕ) → length ys ≤ length xs → length (sum_of xs ys) ≡ length xs
  pub scaled_length : (c : ℕ) (xs : List ℕ) → length (scaled_coefficients c xs) ≡ length xs
  pub scaled_coefficient :
      (c : ℕ) (xs : List ℕ) (k : ℕ)
      → slice_index (scaled_coefficients c xs) k ≡ element_product c (slice_index xs k)
  pub raised_length : (n : ℕ) (xs : List ℕ) → length (raised_coefficients n xs) ≤ n + length xs
  pub raised_coefficient :
      (n : ℕ) (xs : List ℕ) (k : ℕ)
      → slice_index (raised_coefficients n xs) (n + k) ≡ slice_index xs k
  pub raised_below :
      (n : ℕ) (xs : List ℕ) (k : ℕ) → k < n → slice_index (raised_coefficients n xs) k ≡ 0
  pub trimmed_by_last :
      (xs : List ℕ) (n : ℕ) → length xs ≡ suc n → 0 < slice_index xs n
      → trimmed_coefficients xs ≡ xs

-- values of sums and products
pub record HasValues : Type 0 where
  pub fits : (xs : List ℕ) (at : ℕ) → value_at xs at < 256
  pub of_zero : (at : ℕ) → value_at [] at ≡ 0
  pub of_first :
      (c : ℕ) (cs : List ℕ) (at : ℕ) → c < 256
      → value_at (c ∷ cs) at ≡ bit_xor c (element_product at (value_at cs at))
  pub of_sum : (xs ys : List ℕ) (at : ℕ)
      → value_at (sum_of xs ys) at ≡ bit_xor (value_at xs at) (value_at ys at)
  pub of_scaled : (c : ℕ) (xs : List ℕ) (at : ℕ)
      → value_at (scaled_coefficients c xs) at ≡ element_product c (value_at xs at)
  pub of_shifted : (xs : List ℕ) (at : ℕ)
      → value_at (shifted_coefficients xs) at ≡ element_product at (value_at xs at)
  pub of_product :
      (xs ys : List ℕ) (at : ℕ)
      → value_at (list_product xs ys) at ≡ element_product (value_at xs at) (value_at ys at)

-- the points are bytes, and different
pub record AreDifferent (points : List ℕ) : Type 0 where
  pub bytes : (i : ℕ) → i < length points → slice_index points i < 256
  pub apart : (i j : ℕ) → i < j → j < length points → slice_index points i ≢ slice_index points j

-- a polynomial of degree d, whose list has d + 1 members, is 0 at no more than d elements
abbrev pub HasFewRoots : Type 0
HasFewRoots =
    (cs points : List ℕ) → ((k : ℕ) → slice_index cs k < 256) → trimmed_coefficients cs ≡ cs
    → 0 < length cs
    → AreDifferent points → ((i : ℕ) → i < length points → value_at cs (slice_index points i) ≡ 0)
    → length points < length cs
