-- Lists that a polynomial may have.
use Rattle.std.proofs.Common.{◌≡◌, ℕ, ◌+◌, ◌<◌, ◌≤◌, List, [], ◌∷◌, length, get_or, take, replicate, min, sym, ◌∙◌, ap, arith, lit<, inl, inr}
use Rattle.std.proofs.lemmas.List.{get_or_past, get_or-take, length-take, take-take}
use Rattle.std.proofs.lemmas.Bool.{cases_lt}
use Rattle.std.specs.Int.Bits.{bit_xor}
use Rattle.list_members.specs.Places.{get_or-front, get_or-zeros}
use Rattle.poly256.specs.Polynomial.{trimmed_coefficients, sum_of, list_product, IsPolynomial}
use Rattle.poly256.proofs.ListProducts.{product-empty_left, product-empty_right, length-product}
use Rattle.poly256.proofs.ListSums.{coefficient-sum}
use Rattle.poly256.proofs.Trims.{trimmed_coefficients-empty, trimmed_coefficients-trimmed_coefficients, trimmed_from_same, coefficient-trimmed_coefficients, length-trimmed_coefficients}
use Rattle.poly256.proofs.Rooms.{coefficient-take_past}

pub empty-IsPolynomial : (capacity : ℕ) → 1 ≤ capacity → capacity ≤ 1024 → IsPolynomial capacity []
empty-IsPolynomial capacity low high = record {
  low = low;
  high = high;
  fits = omega arith;
  bytes = λ k. lit< tt;
  no_end_zeros = trimmed_coefficients-empty;
}

pub trimmed_coefficients-IsPolynomial :
    (capacity : ℕ) (cs : List ℕ) → 1 ≤ capacity → capacity ≤ 1024 → length cs ≤ capacity → ((k : ℕ) → get_or cs k 0 < 256)
    → IsPolynomial capacity (trimmed_coefficients cs)
trimmed_coefficients-IsPolynomial capacity cs low high fits bytes = record {
  low = low;
  high = high;
  fits = omega (arith, length-trimmed_coefficients cs);
  bytes = λ k. rw (coefficient-trimmed_coefficients cs k) (bytes k);
  no_end_zeros = trimmed_coefficients-trimmed_coefficients cs;
}

-- what is kept of the front of a list
pub kept-shape :
    (capacity bound len : ℕ) (xs : List ℕ) → 1 ≤ capacity → capacity ≤ 1024 → bound ≤ capacity
    → take len (take bound xs) ≡ trimmed_coefficients (take bound xs) → len ≤ length (take bound xs) → ((k : ℕ) → get_or (take bound xs) k 0 < 256)
    → (len ≤ capacity) × IsPolynomial capacity (take len xs)
kept-shape capacity bound len xs low high room value within bytes =
    let l : length (take bound xs) ≤ bound = omega (arith, length-take bound xs) in
    let same : take len xs ≡ trimmed_coefficients (take bound xs) = sym (take-take len bound xs (omega arith)) ∙ value in
    (omega arith, (rw same (trimmed_coefficients-IsPolynomial capacity (take bound xs) low high (omega arith) bytes)))

-- the front of a room that has the coefficients of a shorter list
pub front-trimmed_coefficients :
    (room target : List ℕ) (n : ℕ) → ((k : ℕ) → get_or room k 0 ≡ get_or target k 0) → ((k : ℕ) → n ≤ k → get_or target k 0 ≡ 0)
    → trimmed_coefficients (take n room) ≡ trimmed_coefficients target
front-trimmed_coefficients room target n same past = trimmed_from_same (take n room) target (λ k. elim (cases_lt k n) [
  | inl inside ↦ get_or-take n room k 0 inside ∙ same k
  | inr further ↦ coefficient-take_past room n k further ∙ sym (past k further)
])

pub coefficient-zeros_sum : (n : ℕ) (xs : List ℕ) (k : ℕ) → get_or (sum_of (replicate n 0) xs) k 0 ≡ get_or xs k 0
coefficient-zeros_sum n xs k = coefficient-sum (replicate n 0) xs k ∙ ap (λ (a : ℕ). bit_xor a (get_or xs k 0)) (get_or-zeros n k)

-- a front that has all that is not 0
pub coefficient-front :
    (xs : List ℕ) (n : ℕ) → ((k : ℕ) → n ≤ k → get_or xs k 0 ≡ 0) → (k : ℕ) → get_or (trimmed_coefficients (take n xs)) k 0 ≡ get_or xs k 0
coefficient-front xs n past k = coefficient-trimmed_coefficients (take n xs) k ∙ get_or-front n xs past k

-- what is written into a room of zeros
pub written-trimmed_coefficients :
    (capacity n : ℕ) (room target : List ℕ) → room ≡ sum_of (replicate capacity 0) target → length target ≤ n
    → trimmed_coefficients (take n room) ≡ trimmed_coefficients target
written-trimmed_coefficients capacity n room target e h =
    front-trimmed_coefficients room target n
    (λ k. ap (λ (xs : List ℕ). get_or xs k 0) e ∙ coefficient-zeros_sum capacity target k)
    (λ k past. get_or_past target k 0 (omega arith))

pub length-product_fits :
    (xs ys : List ℕ) (capacity : ℕ) → (0 < length xs → 0 < length ys → length xs + length ys ≤ capacity + 1)
    → length (list_product xs ys) ≤ min (length xs + length ys) capacity
length-product_fits [] ys capacity h = rw (product-empty_left ys) (omega arith)
length-product_fits (x ∷ xs) [] capacity h = rw (product-empty_right (x ∷ xs)) (omega arith)
length-product_fits (x ∷ xs) (y ∷ ys) capacity h =
    let l : length (list_product (x ∷ xs) (y ∷ ys)) + 1 ≡ length (x ∷ xs) + length (y ∷ ys) =
    length-product (x ∷ xs) (y ∷ ys) (omega arith) (omega arith) in
    let room : length (x ∷ xs) + length (y ∷ ys) ≤ capacity + 1 = h (omega arith) (omega arith) in
    omega arith
