-- Lists without the zeros at their end.
use Rattle.std.proofs.Common.{◌≡◌, ℕ, zero, suc, ◌<◌, ◌≤◌, List, [], ◌∷◌, length, get_or, refl, sym, ◌∙◌, ap, ap₂, arith, inl, inr}
use Rattle.std.proofs.lemmas.List.{get_or_past}
use Rattle.std.proofs.lemmas.Bool.{cases_eq}
use Rattle.std.specs.Int.Bits.{bit_xor, xor_self}
use Rattle.gf256_core.specs.Field.{IsField}
use Rattle.poly256.specs.Polynomial.{element_product, sum_of, list_product, trimmed_coefficients, prepended_coefficients}
use Rattle.poly256.proofs.ListSums.{coefficient-sum}
use Rattle.poly256.proofs.ListProducts.{coefficient-product, coefficient-product_first, product-empty_left}

pub trimmed_coefficients-cons : (c : ℕ) (cs : List ℕ) → trimmed_coefficients (c ∷ cs) ≡ prepended_coefficients c (trimmed_coefficients cs)
unfolding trimmed_coefficients
trimmed_coefficients-cons c cs = refl

pub trimmed_coefficients-empty : trimmed_coefficients [] ≡ []
unfolding trimmed_coefficients
trimmed_coefficients-empty = refl

prepended_coefficients-not_zero : (c : ℕ) (cs : List ℕ) → 0 < c → prepended_coefficients c cs ≡ c ∷ cs
unfolding prepended_coefficients
prepended_coefficients-not_zero zero cs h = absurd (omega arith)
prepended_coefficients-not_zero (suc c) cs h = refl

prepended_coefficients-longer : (c : ℕ) (cs : List ℕ) → 0 < length cs → prepended_coefficients c cs ≡ c ∷ cs
unfolding prepended_coefficients
prepended_coefficients-longer zero [] h = absurd (omega arith)
prepended_coefficients-longer zero (d ∷ ds) h = refl
prepended_coefficients-longer (suc c) cs h = refl

prepended_coefficients-nothing : prepended_coefficients 0 [] ≡ []
unfolding prepended_coefficients
prepended_coefficients-nothing = refl

coefficient-prepended_first : (c : ℕ) (cs : List ℕ) → get_or (prepended_coefficients c cs) 0 0 ≡ c
unfolding prepended_coefficients
coefficient-prepended_first zero [] = refl
coefficient-prepended_first zero (d ∷ ds) = refl
coefficient-prepended_first (suc c) cs = refl

coefficient-prepended_coefficients : (c : ℕ) (cs : List ℕ) (k : ℕ) → get_or (prepended_coefficients c cs) (suc k) 0 ≡ get_or cs k 0
unfolding prepended_coefficients
coefficient-prepended_coefficients zero [] k = refl
coefficient-prepended_coefficients zero (d ∷ ds) k = refl
coefficient-prepended_coefficients (suc c) cs k = refl

pub coefficient-trimmed_coefficients : (cs : List ℕ) (k : ℕ) → get_or (trimmed_coefficients cs) k 0 ≡ get_or cs k 0
coefficient-trimmed_coefficients [] k = ap (λ (us : List ℕ). get_or us k 0) trimmed_coefficients-empty
coefficient-trimmed_coefficients (c ∷ cs) zero =
    ap (λ (us : List ℕ). get_or us 0 0) (trimmed_coefficients-cons c cs) ∙ coefficient-prepended_first c (trimmed_coefficients cs)
coefficient-trimmed_coefficients (c ∷ cs) (suc k) =
    ap (λ (us : List ℕ). get_or us (suc k) 0) (trimmed_coefficients-cons c cs) ∙ coefficient-prepended_coefficients c (trimmed_coefficients cs) k ∙ coefficient-trimmed_coefficients cs k

-- two lists with the same coefficients
pub Same : List ℕ → List ℕ → Type 0
Same xs ys = (k : ℕ) → get_or xs k 0 ≡ get_or ys k 0

pub trimmed_coefficients-zeros : (cs : List ℕ) → ((k : ℕ) → get_or cs k 0 ≡ 0) → trimmed_coefficients cs ≡ []
trimmed_coefficients-zeros [] h = trimmed_coefficients-empty
trimmed_coefficients-zeros (c ∷ cs) h =
    trimmed_coefficients-cons c cs ∙ ap₂ prepended_coefficients (h 0) (trimmed_coefficients-zeros cs (λ k. h (suc k))) ∙ prepended_coefficients-nothing

pub trimmed_from_same : (xs ys : List ℕ) → ((k : ℕ) → get_or xs k 0 ≡ get_or ys k 0) → trimmed_coefficients xs ≡ trimmed_coefficients ys
trimmed_from_same [] ys h = trimmed_coefficients-empty ∙ sym (trimmed_coefficients-zeros ys (λ k. sym (h k)))
trimmed_from_same (x ∷ xs) [] h = trimmed_coefficients-zeros (x ∷ xs) h ∙ sym trimmed_coefficients-empty
trimmed_from_same (x ∷ xs) (y ∷ ys) h =
    trimmed_coefficients-cons x xs ∙ ap₂ prepended_coefficients (h 0) (trimmed_from_same xs ys (λ k. h (suc k))) ∙ sym (trimmed_coefficients-cons y ys)

pub same_from_trimmed : (xs ys : List ℕ) → trimmed_coefficients xs ≡ trimmed_coefficients ys → (k : ℕ) → get_or xs k 0 ≡ get_or ys k 0
same_from_trimmed xs ys e k =
    sym (coefficient-trimmed_coefficients xs k) ∙ ap (λ (us : List ℕ). get_or us k 0) e ∙ coefficient-trimmed_coefficients ys k

pub trimmed_coefficients-trimmed_coefficients : (xs : List ℕ) → trimmed_coefficients (trimmed_coefficients xs) ≡ trimmed_coefficients xs
trimmed_coefficients-trimmed_coefficients xs = trimmed_from_same (trimmed_coefficients xs) xs (coefficient-trimmed_coefficients xs)

pub trimmed_coefficients-sum : (xs ys : List ℕ) → trimmed_coefficients (sum_of (trimmed_coefficients xs) ys) ≡ trimmed_coefficients (sum_of xs ys)
trimmed_coefficients-sum xs ys =
    trimmed_from_same (sum_of (trimmed_coefficients xs) ys) (sum_of xs ys)
    (λ k. coefficient-sum (trimmed_coefficients xs) ys k ∙ ap (λ (a : ℕ). bit_xor a (get_or ys k 0)) (coefficient-trimmed_coefficients xs k)
    ∙ sym (coefficient-sum xs ys k))

pub sum-self : (xs : List ℕ) → trimmed_coefficients (sum_of xs xs) ≡ []
sum-self xs = trimmed_coefficients-zeros (sum_of xs xs) (λ k. coefficient-sum xs xs k ∙ xor_self (get_or xs k 0))

-- a product has the coefficients of its first factor alone
pub zeros-product :
    (F : IsField 391) (xs ys : List ℕ) → ((k : ℕ) → get_or xs k 0 ≡ 0) → (k : ℕ) → get_or (list_product xs ys) k 0 ≡ 0
zeros-product F [] ys h k = ap (λ (us : List ℕ). get_or us k 0) (product-empty_left ys)
zeros-product F (x ∷ xs) ys h zero =
    coefficient-product_first F x xs ys ∙ ap (λ (a : ℕ). element_product a (get_or ys 0 0)) (h 0) ∙ F.product_zero (get_or ys 0 0)
zeros-product F (x ∷ xs) ys h (suc k) =
    coefficient-product F x xs ys k
    ∙ ap₂ bit_xor (ap (λ (a : ℕ). element_product a (get_or ys (suc k) 0)) (h 0) ∙ F.product_zero (get_or ys (suc k) 0))
    (zeros-product F xs ys (λ j. h (suc j)) k)

pub same-product :
    (F : IsField 391) (xs zs ys : List ℕ) → ((k : ℕ) → get_or xs k 0 ≡ get_or zs k 0)
    → (k : ℕ) → get_or (list_product xs ys) k 0 ≡ get_or (list_product zs ys) k 0
same-product F [] zs ys h k =
    ap (λ (us : List ℕ). get_or us k 0) (product-empty_left ys) ∙ sym (zeros-product F zs ys (λ j. sym (h j)) k)
same-product F (x ∷ xs) [] ys h k =
    zeros-product F (x ∷ xs) ys h k ∙ sym (ap (λ (us : List ℕ). get_or us k 0) (product-empty_left ys))
same-product F (x ∷ xs) (z ∷ zs) ys h zero =
    coefficient-product_first F x xs ys ∙ ap (λ (a : ℕ). element_product a (get_or ys 0 0)) (h 0)
    ∙ sym (coefficient-product_first F z zs ys)
same-product F (x ∷ xs) (z ∷ zs) ys h (suc k) =
    coefficient-product F x xs ys k
    ∙ ap₂ bit_xor (ap (λ (a : ℕ). element_product a (get_or ys (suc k) 0)) (h 0)) (same-product F xs zs ys (λ j. h (suc j)) k)
    ∙ sym (coefficient-product F z zs ys k)

pub trimmed_coefficients-product : (F : IsField 391) (xs ys : List ℕ) → trimmed_coefficients (list_product (trimmed_coefficients xs) ys) ≡ trimmed_coefficients (list_product xs ys)
trimmed_coefficients-product F xs ys =
    trimmed_from_same (list_product (trimmed_coefficients xs) ys) (list_product xs ys) (same-product F (trimmed_coefficients xs) xs ys (coefficient-trimmed_coefficients xs))

-- ---- lengths
length-prepended_coefficients : (c : ℕ) (cs : List ℕ) (n : ℕ) → length cs ≤ n → length (prepended_coefficients c cs) ≤ suc n
unfolding prepended_coefficients
length-prepended_coefficients zero [] n h = omega arith
length-prepended_coefficients zero (d ∷ ds) n h = omega arith
length-prepended_coefficients (suc c) cs n h = omega arith

pub length-trimmed_coefficients : (xs : List ℕ) → length (trimmed_coefficients xs) ≤ length xs
length-trimmed_coefficients [] = rw trimmed_coefficients-empty (omega arith)
length-trimmed_coefficients (x ∷ xs) = rw (trimmed_coefficients-cons x xs) (length-prepended_coefficients x (trimmed_coefficients xs) (length xs) (length-trimmed_coefficients xs))

pub length-trimmed_below : (xs : List ℕ) (n : ℕ) → ((k : ℕ) → n ≤ k → get_or xs k 0 ≡ 0) → length (trimmed_coefficients xs) ≤ n
length-trimmed_below xs zero h = rw (trimmed_coefficients-zeros xs (λ k. h k (omega arith))) (omega arith)
length-trimmed_below [] (suc n) h = rw trimmed_coefficients-empty (omega arith)
length-trimmed_below (x ∷ xs) (suc n) h =
    rw (trimmed_coefficients-cons x xs) (length-prepended_coefficients x (trimmed_coefficients xs) n (length-trimmed_below xs n (λ k l. h (suc k) (omega arith))))

-- a list whose last member is not 0
pub trimmed_from_last : (xs : List ℕ) (n : ℕ) → length xs ≡ suc n → 0 < get_or xs n 0 → trimmed_coefficients xs ≡ xs
trimmed_from_last [] n e h = absurd (omega arith)
trimmed_from_last (x ∷ []) zero e h = trimmed_coefficients-cons x [] ∙ ap (prepended_coefficients x) trimmed_coefficients-empty ∙ prepended_coefficients-not_zero x [] h
trimmed_from_last (x ∷ []) (suc n) e h = absurd (omega arith)
trimmed_from_last (x ∷ y ∷ xs) zero e h = absurd (omega arith)
trimmed_from_last (x ∷ y ∷ xs) (suc n) e h =
    let rest : trimmed_coefficients (y ∷ xs) ≡ y ∷ xs = trimmed_from_last (y ∷ xs) n (omega arith) h in
    trimmed_coefficients-cons x (y ∷ xs) ∙ ap (prepended_coefficients x) rest ∙ prepended_coefficients-longer x (y ∷ xs) (omega arith)

-- the last member of a list with no zeros at its end
pub last_from_trimmed : (xs : List ℕ) (n : ℕ) → trimmed_coefficients xs ≡ xs → length xs ≡ suc n → 0 < get_or xs n 0
last_from_trimmed xs n e l = elim (cases_eq (get_or xs n 0) 0) [
  | inl none ↦
      let short : length (trimmed_coefficients xs) ≤ n =
      length-trimmed_below xs n
      (λ k h. elim (cases_eq k n) [ inl same ↦ rw same none | inr other ↦ get_or_past xs k 0 (omega arith) ]) in
      let same : length (trimmed_coefficients xs) ≡ length xs = ap length e in
      absurd (omega arith)
  | inr some ↦ omega arith
]
