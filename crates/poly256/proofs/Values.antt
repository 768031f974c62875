-- Values of polynomials.
use Rattle.std.proofs.Common.{◌≡◌, ℕ, zero, suc, ◌<◌, List, [], ◌∷◌, refl, sym, ◌∙◌, ap, ap₂, lit<}
use Rattle.std.specs.Int.Bits.{bit_xor, xor_zero_r}
use Rattle.gf256_core.specs.Field.{power, IsField}
use Rattle.poly256.specs.Polynomial.{element_product, element_power, sum_of, scaled_coefficients, shifted_coefficients, list_product, trimmed_coefficients, prepended_coefficients, terms_from, value_at}
use Rattle.bit_fields.specs.Xors.{xor-shuffle}
use Rattle.poly256.proofs.ListProducts.{product-cons, product-empty_left}
use Rattle.poly256.proofs.Trims.{trimmed_coefficients-cons, trimmed_coefficients-empty}

-- the terms from one power on are `at` times those from the power before on
terms-suc : (F : IsField 391) (n : ℕ) (cs : List ℕ) (at : ℕ) → terms_from (suc n) cs at ≡ element_product at (terms_from n cs at)
unfolding terms_from power
terms-suc F n [] at = sym (F.product_zero_right at)
terms-suc F n (c ∷ cs) at =
    ap₂ bit_xor
    (sym (F.product_assoc c (element_power at n) at)
    ∙ F.product_comm (element_product c (element_power at n)) at)
    (terms-suc F (suc n) cs at)
    ∙ sym (F.distributive_right at (element_product c (element_power at n)) (terms_from (suc n) cs at))

pub value-empty : (at : ℕ) → value_at [] at ≡ 0
unfolding value_at terms_from
value-empty at = refl

value-cons_reduced :
    (F : IsField 391) (c : ℕ) (cs : List ℕ) (at : ℕ)
    → value_at (c ∷ cs) at ≡ bit_xor (element_product 1 c) (element_product at (value_at cs at))
unfolding value_at terms_from power
value-cons_reduced F c cs at =
    ap₂ bit_xor (F.product_comm c 1) (terms-suc F 0 cs at)

pub value-cons :
    (F : IsField 391) (c : ℕ) (cs : List ℕ) (at : ℕ) → c < 256
    → value_at (c ∷ cs) at ≡ bit_xor c (element_product at (value_at cs at))
value-cons F c cs at h =
    value-cons_reduced F c cs at ∙ ap (λ (x : ℕ). bit_xor x (element_product at (value_at cs at))) (F.product_one c h)

terms-fit : (F : IsField 391) (n : ℕ) (cs : List ℕ) (at : ℕ) → terms_from n cs at < 256
unfolding terms_from
terms-fit F n [] at = lit< tt
terms-fit F n (c ∷ cs) at =
    F.sum_fits (element_product c (element_power at n)) (terms_from (suc n) cs at) (F.product_fits c (element_power at n)) (terms-fit F (suc n) cs at)

pub value-fits : (F : IsField 391) (cs : List ℕ) (at : ℕ) → value_at cs at < 256
unfolding value_at
value-fits F cs at = terms-fit F 0 cs at

terms-sum :
    (F : IsField 391) (n : ℕ) (xs ys : List ℕ) (at : ℕ) → terms_from n (sum_of xs ys) at ≡ bit_xor (terms_from n xs at) (terms_from n ys at)
unfolding terms_from sum_of
terms-sum F n [] ys at = refl
terms-sum F n (x ∷ xs) [] at = sym (xor_zero_r (terms_from n (x ∷ xs) at))
terms-sum F n (x ∷ xs) (y ∷ ys) at =
    ap₂ bit_xor (F.distributive x y (element_power at n)) (terms-sum F (suc n) xs ys at)
    ∙ xor-shuffle (element_product x (element_power at n)) (element_product y (element_power at n)) (terms_from (suc n) xs at) (terms_from (suc n) ys at)

pub value-sum : (F : IsField 391) (xs ys : List ℕ) (at : ℕ) → value_at (sum_of xs ys) at ≡ bit_xor (value_at xs at) (value_at ys at)
unfolding value_at
value-sum F xs ys at = terms-sum F 0 xs ys at

terms-scaled_coefficients : (F : IsField 391) (n c : ℕ) (xs : List ℕ) (at : ℕ) → terms_from n (scaled_coefficients c xs) at ≡ element_product c (terms_from n xs at)
unfolding terms_from scaled_coefficients
terms-scaled_coefficients F n c [] at = sym (F.product_zero_right c)
terms-scaled_coefficients F n c (x ∷ xs) at =
    ap₂ bit_xor (F.product_assoc c x (element_power at n)) (terms-scaled_coefficients F (suc n) c xs at)
    ∙ sym (F.distributive_right c (element_product x (element_power at n)) (terms_from (suc n) xs at))

pub value-scaled_coefficients : (F : IsField 391) (c : ℕ) (xs : List ℕ) (at : ℕ) → value_at (scaled_coefficients c xs) at ≡ element_product c (value_at xs at)
unfolding value_at
value-scaled_coefficients F c xs at = terms-scaled_coefficients F 0 c xs at

pub value-shifted_coefficients : (F : IsField 391) (xs : List ℕ) (at : ℕ) → value_at (shifted_coefficients xs) at ≡ element_product at (value_at xs at)
unfolding shifted_coefficients
value-shifted_coefficients F [] at = value-empty at ∙ sym (ap (element_product at) (value-empty at) ∙ F.product_zero_right at)
value-shifted_coefficients F (x ∷ xs) at = value-cons F 0 (x ∷ xs) at (lit< tt)

pub value-product :
    (F : IsField 391) (xs ys : List ℕ) (at : ℕ) → value_at (list_product xs ys) at ≡ element_product (value_at xs at) (value_at ys at)
value-product F [] ys at =
    ap (λ (us : List ℕ). value_at us at) (product-empty_left ys) ∙ value-empty at
    ∙ sym (ap (λ (a : ℕ). element_product a (value_at ys at)) (value-empty at) ∙ F.product_zero (value_at ys at))
value-product F (x ∷ xs) ys at =
    let v : ℕ = value_at ys at in
    ap (λ (us : List ℕ). value_at us at) (product-cons x xs ys)
    ∙ value-sum F (scaled_coefficients x ys) (shifted_coefficients (list_product xs ys)) at
    ∙ ap₂ bit_xor
    (value-scaled_coefficients F x ys at
    ∙ sym (F.product_one (element_product x (value_at ys at)) (F.product_fits x (value_at ys at)))
    ∙ sym (F.product_assoc 1 x (value_at ys at)))
    (value-shifted_coefficients F (list_product xs ys) at ∙ ap (element_product at) (value-product F xs ys at)
    ∙ sym (F.product_assoc at (value_at xs at) (value_at ys at)))
    ∙ sym (F.distributive (element_product 1 x) (element_product at (value_at xs at)) (value_at ys at))
    ∙ ap (λ (a : ℕ). element_product a (value_at ys at)) (sym (value-cons_reduced F x xs at))

terms-prepended_coefficients : (F : IsField 391) (n c : ℕ) (cs : List ℕ) (at : ℕ) → terms_from n (prepended_coefficients c cs) at ≡ terms_from n (c ∷ cs) at
unfolding terms_from prepended_coefficients
terms-prepended_coefficients F n zero [] at = sym (ap (λ (x : ℕ). bit_xor x 0) (F.product_zero (element_power at n)))
terms-prepended_coefficients F n zero (d ∷ ds) at = refl
terms-prepended_coefficients F n (suc c) cs at = refl

terms-trimmed_coefficients : (F : IsField 391) (n : ℕ) (cs : List ℕ) (at : ℕ) → terms_from n (trimmed_coefficients cs) at ≡ terms_from n cs at
unfolding terms_from
terms-trimmed_coefficients F n [] at = ap (λ (us : List ℕ). terms_from n us at) trimmed_coefficients-empty
terms-trimmed_coefficients F n (c ∷ cs) at =
    ap (λ (us : List ℕ). terms_from n us at) (trimmed_coefficients-cons c cs) ∙ terms-prepended_coefficients F n c (trimmed_coefficients cs) at
    ∙ ap (bit_xor (element_product c (element_power at n))) (terms-trimmed_coefficients F (suc n) cs at)

pub value-trimmed_coefficients : (F : IsField 391) (cs : List ℕ) (at : ℕ) → value_at (trimmed_coefficients cs) at ≡ value_at cs at
unfolding value_at
value-trimmed_coefficients F cs at = terms-trimmed_coefficients F 0 cs at
