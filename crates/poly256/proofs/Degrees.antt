-- Degrees of sums and products, and that a division has one answer.
use Rattle.std.proofs.Common.{◌≡◌, ℕ, zero, suc, ◌+◌, ◌-◌, ◌<◌, ◌≤◌, List, [], ◌∷◌, length, get_or, refl, sym, ◌∙◌, ap, ap₂, arith, inl, inr}
use Rattle.std.proofs.lemmas.List.{get_or_past}
use Rattle.std.proofs.lemmas.Bool.{cases_eq}
use Rattle.std.specs.Int.Bits.{bit_xor, xor_zero_r}
use Rattle.gf256_core.specs.Field.{IsField}
use Rattle.poly256.specs.Polynomial.{element_product, sum_of, list_product, trimmed_coefficients, IsDivision}
use Rattle.poly256.proofs.ListSums.{coefficient-sum, length-sum_left, length-sum_at_most, coefficient-scaled_coefficients}
use Rattle.poly256.proofs.ListProducts.{coefficient-product, product-single, product-empty_left, product-empty_right, length-product, product-sum_left}
use Rattle.bit_fields.specs.Xors.{xor-swap, xor-equal}
use Rattle.poly256.proofs.Trims.{trimmed_coefficients-empty, trimmed_from_last, last_from_trimmed, trimmed_from_same, same_from_trimmed, coefficient-trimmed_coefficients, trimmed_coefficients-trimmed_coefficients, trimmed_coefficients-product, length-trimmed_coefficients}

pub last_not_zero : (xs : List ℕ) → trimmed_coefficients xs ≡ xs → 0 < length xs → 0 < get_or xs (length xs - 1) 0
last_not_zero xs e h = last_from_trimmed xs (length xs - 1) e (omega arith)

pub sum_of_lower :
    (xs ys : List ℕ) → trimmed_coefficients xs ≡ xs → length ys < length xs
    → (trimmed_coefficients (sum_of xs ys) ≡ sum_of xs ys) × (length (sum_of xs ys) ≡ length xs)
sum_of_lower xs ys e h =
    let l : length (sum_of xs ys) ≡ length xs = length-sum_left xs ys (omega arith) in
    let past : get_or ys (length xs - 1) 0 ≡ 0 = get_or_past ys (length xs - 1) 0 (omega arith) in
    let last : 0 < get_or xs (length xs - 1) 0 = last_not_zero xs e (omega arith) in
    let same : get_or (sum_of xs ys) (length xs - 1) 0 ≡ get_or xs (length xs - 1) 0 =
    coefficient-sum xs ys (length xs - 1) ∙ ap (bit_xor (get_or xs (length xs - 1) 0)) past ∙ xor_zero_r (get_or xs (length xs - 1) 0) in
    (trimmed_from_last (sum_of xs ys) (length xs - 1) (omega arith) (omega arith), l)

-- the last coefficient of a product
coefficient-product_last :
    (F : IsField 391) (xs ys : List ℕ) (n m : ℕ) → length xs ≡ suc n → length ys ≡ suc m
    → get_or (list_product xs ys) (n + m) 0 ≡ element_product (get_or xs n 0) (get_or ys m 0)
coefficient-product_last F [] ys n m ex ey = absurd (omega arith)
coefficient-product_last F (x ∷ []) ys zero m ex ey =
    ap₂ (λ (us : List ℕ) (k : ℕ). get_or us k 0) (product-single x ys) (let z : 0 + m ≡ m = omega arith in z) ∙ coefficient-scaled_coefficients F x ys m
coefficient-product_last F (x ∷ []) ys (suc n) m ex ey = absurd (omega arith)
coefficient-product_last F (x ∷ x' ∷ xs) ys zero m ex ey = absurd (omega arith)
coefficient-product_last F (x ∷ x' ∷ xs) ys (suc n) m ex ey =
    let past : get_or ys (suc (n + m)) 0 ≡ 0 = get_or_past ys (suc (n + m)) 0 (omega arith) in
    ap (λ (k : ℕ). get_or (list_product (x ∷ x' ∷ xs) ys) k 0) (let e : suc n + m ≡ suc (n + m) = omega arith in e)
    ∙ coefficient-product F x (x' ∷ xs) ys (n + m)
    ∙ ap₂ bit_xor (ap (element_product x) past ∙ F.product_zero_right x)
    (coefficient-product_last F (x' ∷ xs) ys n m (omega arith) ey)

not_zero : (F : IsField 391) (a b : ℕ) → 0 < a → a < 256 → 0 < b → b < 256 → 0 < element_product a b
not_zero F a b la ha lb hb = elim (cases_eq (element_product a b) 0) [
  | inl none ↦ elim (F.zero_factor a b ha hb none) [ inl e ↦ absurd (omega arith) | inr e ↦ absurd (omega arith) ]
  | inr some ↦ omega arith
]

pub product_keeps :
    (F : IsField 391) (xs ys : List ℕ) → ((k : ℕ) → get_or xs k 0 < 256) → ((k : ℕ) → get_or ys k 0 < 256)
    → trimmed_coefficients xs ≡ xs → trimmed_coefficients ys ≡ ys → trimmed_coefficients (list_product xs ys) ≡ list_product xs ys
product_keeps F [] ys bx by tx ty = ap trimmed_coefficients (product-empty_left ys) ∙ tx ∙ sym (product-empty_left ys)
product_keeps F (x ∷ xs) [] bx by tx ty = ap trimmed_coefficients (product-empty_right (x ∷ xs)) ∙ ty ∙ sym (product-empty_right (x ∷ xs))
product_keeps F (x ∷ xs) (y ∷ ys) bx by tx ty =
    let n : ℕ = length xs in
    let l : length (list_product (x ∷ xs) (y ∷ ys)) + 1 ≡ length (x ∷ xs) + length (y ∷ ys) =
    length-product (x ∷ xs) (y ∷ ys) (omega arith) (omega arith) in
    let last : 0 < element_product (get_or (x ∷ xs) (length xs) 0) (get_or (y ∷ ys) (length ys) 0) =
    not_zero F (get_or (x ∷ xs) (length xs) 0) (get_or (y ∷ ys) (length ys) 0)
    (last_from_trimmed (x ∷ xs) (length xs) tx refl) (bx (length xs)) (last_from_trimmed (y ∷ ys) (length ys) ty refl) (by (length ys)) in
    let e : get_or (list_product (x ∷ xs) (y ∷ ys)) (length xs + length ys) 0
    ≡ element_product (get_or (x ∷ xs) (length xs) 0) (get_or (y ∷ ys) (length ys) 0) =
    coefficient-product_last F (x ∷ xs) (y ∷ ys) (length xs) (length ys) refl refl in
    trimmed_from_last (list_product (x ∷ xs) (y ∷ ys)) (length xs + length ys) (omega arith) (rw e last)

-- ---- one division
-- the difference of two quotients, times the divisor, has the coefficients of the difference of the rests
difference :
    (F : IsField 391) (whole ds qs rs us vs : List ℕ)
    → trimmed_coefficients (sum_of (list_product qs ds) rs) ≡ trimmed_coefficients whole → trimmed_coefficients (sum_of (list_product us ds) vs) ≡ trimmed_coefficients whole
    → (k : ℕ) → get_or (list_product (sum_of qs us) ds) k 0 ≡ get_or (sum_of rs vs) k 0
difference F whole ds qs rs us vs e e' k =
    let same : get_or (sum_of (list_product qs ds) rs) k 0 ≡ get_or (sum_of (list_product us ds) vs) k 0 =
    same_from_trimmed (sum_of (list_product qs ds) rs) (sum_of (list_product us ds) vs) (e ∙ sym e') k in
    ap (λ (xs : List ℕ). get_or xs k 0) (product-sum_left F qs us ds)
    ∙ coefficient-sum (list_product qs ds) (list_product us ds) k
    ∙ xor-swap (get_or (list_product qs ds) k 0) (get_or rs k 0) (get_or (list_product us ds) k 0) (get_or vs k 0)
    (sym (coefficient-sum (list_product qs ds) rs k) ∙ same ∙ coefficient-sum (list_product us ds) vs k)
    ∙ sym (coefficient-sum rs vs k)

-- a list that is a multiple of the divisor and shorter is zero
multiple_too_short :
    (F : IsField 391) (ts ds ws : List ℕ) → ((k : ℕ) → get_or ts k 0 < 256) → ((k : ℕ) → get_or ds k 0 < 256)
    → trimmed_coefficients ts ≡ ts → trimmed_coefficients ds ≡ ds → trimmed_coefficients (list_product ts ds) ≡ trimmed_coefficients ws → length ws < length ds → ts ≡ []
multiple_too_short F [] ds ws bt bd tt' td e h = refl
multiple_too_short F (t ∷ ts) ds ws bt bd tt' td e h =
    let keeps : length (list_product (t ∷ ts) ds) ≡ length (trimmed_coefficients ws) =
    ap length (sym (product_keeps F (t ∷ ts) ds bt bd tt' td) ∙ e) in
    let short : length (trimmed_coefficients ws) ≤ length ws = length-trimmed_coefficients ws in
    let long : length (list_product (t ∷ ts) ds) + 1 ≡ length (t ∷ ts) + length ds =
    length-product (t ∷ ts) ds (omega arith) (omega arith) in
    absurd (omega arith)

empty_sum : (xs ys : List ℕ) → trimmed_coefficients xs ≡ xs → trimmed_coefficients ys ≡ ys → trimmed_coefficients (sum_of xs ys) ≡ [] → xs ≡ ys
empty_sum xs ys tx ty e =
    sym tx
    ∙ trimmed_from_same xs ys (λ k. xor-equal (get_or xs k 0) (get_or ys k 0)
    (sym (coefficient-sum xs ys k) ∙ sym (coefficient-trimmed_coefficients (sum_of xs ys) k) ∙ ap (λ (us : List ℕ). get_or us k 0) e))
    ∙ ty

pub one_division :
    (F : IsField 391) (whole ds qs rs us vs : List ℕ)
    → trimmed_coefficients ds ≡ ds → ((k : ℕ) → get_or ds k 0 < 256) → trimmed_coefficients qs ≡ qs → ((k : ℕ) → get_or qs k 0 < 256) → trimmed_coefficients rs ≡ rs
    → trimmed_coefficients us ≡ us → ((k : ℕ) → get_or us k 0 < 256) → trimmed_coefficients vs ≡ vs
    → IsDivision whole ds qs rs → IsDivision whole ds us vs → (qs ≡ us) × (rs ≡ vs)
one_division F whole ds qs rs us vs td bd tq bq tr tu bu tv i j =
    let d : (k : ℕ) → get_or (list_product (sum_of qs us) ds) k 0 ≡ get_or (sum_of rs vs) k 0 =
    difference F whole ds qs rs us vs i.whole j.whole in
    let lower : length rs < length ds = i.lower in
    let lower' : length vs < length ds = j.lower in
    let short : length (sum_of rs vs) ≤ length ds - 1 =
    length-sum_at_most rs vs (length ds - 1) (omega arith) (omega arith) in
    let bytes : (k : ℕ) → get_or (trimmed_coefficients (sum_of qs us)) k 0 < 256 =
    λ k. rw (coefficient-trimmed_coefficients (sum_of qs us) k, coefficient-sum qs us k) (F.sum_fits (get_or qs k 0) (get_or us k 0) (bq k) (bu k)) in
    let multiple : trimmed_coefficients (list_product (trimmed_coefficients (sum_of qs us)) ds) ≡ trimmed_coefficients (sum_of rs vs) =
    trimmed_coefficients-product F (sum_of qs us) ds ∙ trimmed_from_same (list_product (sum_of qs us) ds) (sum_of rs vs) d in
    let none : trimmed_coefficients (sum_of qs us) ≡ [] =
    multiple_too_short F (trimmed_coefficients (sum_of qs us)) ds (sum_of rs vs) bytes bd (trimmed_coefficients-trimmed_coefficients (sum_of qs us)) td multiple (omega arith) in
    let rests : trimmed_coefficients (sum_of rs vs) ≡ [] =
    sym multiple ∙ ap (λ (xs : List ℕ). trimmed_coefficients (list_product xs ds)) none ∙ ap trimmed_coefficients (product-empty_left ds)
    ∙ trimmed_coefficients-empty in
    (empty_sum qs us tq tu none, empty_sum rs vs tr tv rests)
