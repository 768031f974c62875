-- Products of lists of coefficients.
use Rattle.std.proofs.Common.{◌≡◌, ℕ, zero, suc, ◌+◌, ◌<◌, ◌≤◌, List, [], ◌∷◌, length, get_or, refl, sym, ◌∙◌, ap, ap₂, arith}
use Rattle.std.specs.Int.Bits.{bit_xor, xor_zero_r}
use Rattle.gf256_core.specs.Field.{IsField}
use Rattle.poly256.specs.Polynomial.{element_product, sum_of, scaled_coefficients, shifted_coefficients, list_product}
use Rattle.std.proofs.lemmas.List.{get_or_past}
use Rattle.poly256.proofs.ListSums.{length-sum_at_least, sum-empty_right, sum_comm, sum_assoc, sum-shuffle, length-sum_right, scaled_coefficients-sum, scaled_coefficients-xor, scaled_coefficients-scaled_coefficients, length-scaled_coefficients, scaled_coefficients-one, sum-scaled_zero, shifted_coefficients-sum, scaled-shifted_coefficients, length-shifted_coefficients, length-shifted_more, scaled_coefficients-cons, coefficient-sum, coefficient-scaled_coefficients, coefficient-shifted_coefficients, coefficient-shifted_first}

pub product-cons : (x : ℕ) (xs ys : List ℕ) → list_product (x ∷ xs) ys ≡ sum_of (scaled_coefficients x ys) (shifted_coefficients (list_product xs ys))
unfolding list_product
product-cons x xs ys = refl

pub product-empty_left : (ys : List ℕ) → list_product [] ys ≡ []
unfolding list_product
product-empty_left ys = refl

pub product-empty_right : (xs : List ℕ) → list_product xs [] ≡ []
unfolding list_product scaled_coefficients sum_of shifted_coefficients
product-empty_right [] = refl
product-empty_right (x ∷ xs) = ap shifted_coefficients (product-empty_right xs)

pub product-sum_left :
    (F : IsField 391) (xs ys zs : List ℕ) → list_product (sum_of xs ys) zs ≡ sum_of (list_product xs zs) (list_product ys zs)
unfolding list_product sum_of
product-sum_left F [] ys zs = refl
product-sum_left F (x ∷ xs) [] zs = sym (sum-empty_right (list_product (x ∷ xs) zs))
product-sum_left F (x ∷ xs) (y ∷ ys) zs =
    ap₂ sum_of (scaled_coefficients-xor F x y zs) (ap shifted_coefficients (product-sum_left F xs ys zs) ∙ shifted_coefficients-sum (list_product xs zs) (list_product ys zs))
    ∙ sum-shuffle (scaled_coefficients x zs) (scaled_coefficients y zs) (shifted_coefficients (list_product xs zs)) (shifted_coefficients (list_product ys zs))

pub product-scaled_left : (F : IsField 391) (c : ℕ) (xs ys : List ℕ) → list_product (scaled_coefficients c xs) ys ≡ scaled_coefficients c (list_product xs ys)
unfolding list_product scaled_coefficients
product-scaled_left F c [] ys = refl
product-scaled_left F c (x ∷ xs) ys =
    ap₂ sum_of (sym (scaled_coefficients-scaled_coefficients F c x ys)) (ap shifted_coefficients (product-scaled_left F c xs ys) ∙ sym (scaled-shifted_coefficients F c (list_product xs ys)))
    ∙ sym (scaled_coefficients-sum F c (scaled_coefficients x ys) (shifted_coefficients (list_product xs ys)))

pub product-single : (x : ℕ) (ys : List ℕ) → list_product (x ∷ []) ys ≡ scaled_coefficients x ys
unfolding list_product shifted_coefficients
product-single x ys = sum-empty_right (scaled_coefficients x ys)

length-product_at_least : (x : ℕ) (xs ys : List ℕ) → length ys ≤ length (list_product (x ∷ xs) ys)
length-product_at_least x xs ys =
    let l : length (scaled_coefficients x ys) ≡ length ys = length-scaled_coefficients x ys in
    let s : length (scaled_coefficients x ys) ≤ length (sum_of (scaled_coefficients x ys) (shifted_coefficients (list_product xs ys))) =
    length-sum_at_least (scaled_coefficients x ys) (shifted_coefficients (list_product xs ys)) in
    let e : length (list_product (x ∷ xs) ys) ≡ length (sum_of (scaled_coefficients x ys) (shifted_coefficients (list_product xs ys))) =
    ap length (product-cons x xs ys) in
    omega arith

pub product-shifted_left : (F : IsField 391) (xs ys : List ℕ) → list_product (shifted_coefficients xs) ys ≡ shifted_coefficients (list_product xs ys)
unfolding shifted_coefficients
product-shifted_left F [] ys = product-empty_left ys ∙ ap shifted_coefficients (sym (product-empty_left ys))
product-shifted_left F (x ∷ xs) ys =
    let longer : length ys ≤ length (shifted_coefficients (list_product (x ∷ xs) ys)) =
    omega (arith, length-product_at_least x xs ys, length-shifted_coefficients (list_product (x ∷ xs) ys)) in
    product-cons 0 (x ∷ xs) ys ∙ sum-scaled_zero F ys (shifted_coefficients (list_product (x ∷ xs) ys)) longer

-- a product by the first coefficient of its second factor
scaled_coefficients-first : (F : IsField 391) (c : ℕ) (us vs : List ℕ) → sum_of (c ∷ us) (shifted_coefficients vs) ≡ sum_of (c ∷ vs) (shifted_coefficients us)
unfolding sum_of shifted_coefficients
scaled_coefficients-first F c [] [] = refl
scaled_coefficients-first F c [] (b ∷ vs) = ap (λ (a : ℕ). a ∷ b ∷ vs) (xor_zero_r c)
scaled_coefficients-first F c (a ∷ us) [] = ap (λ (x : ℕ). x ∷ a ∷ us) (sym (xor_zero_r c))
scaled_coefficients-first F c (a ∷ us) (b ∷ vs) = ap (λ (xs : List ℕ). bit_xor c 0 ∷ xs) (sum_comm (a ∷ us) (b ∷ vs))

nothing_right : (y : ℕ) (ys : List ℕ) → sum_of (scaled_coefficients y []) (shifted_coefficients (list_product [] ys)) ≡ []
unfolding sum_of scaled_coefficients shifted_coefficients list_product
nothing_right y ys = refl

product-cons_right :
    (F : IsField 391) (y : ℕ) (xs ys : List ℕ) → list_product xs (y ∷ ys) ≡ sum_of (scaled_coefficients y xs) (shifted_coefficients (list_product xs ys))
product-cons_right F y [] ys = product-empty_left (y ∷ ys) ∙ sym (nothing_right y ys)
product-cons_right F y (x ∷ xs) ys =
    let P : List ℕ = list_product xs ys in
    product-cons x xs (y ∷ ys)
    ∙ ap₂ sum_of (scaled_coefficients-cons x y ys)
    (ap shifted_coefficients (product-cons_right F y xs ys) ∙ shifted_coefficients-sum (scaled_coefficients y xs) (shifted_coefficients (list_product xs ys)))
    ∙ sym (sum_assoc (element_product x y ∷ scaled_coefficients x ys) (shifted_coefficients (scaled_coefficients y xs)) (shifted_coefficients (shifted_coefficients (list_product xs ys))))
    ∙ ap (λ (us : List ℕ). sum_of us (shifted_coefficients (shifted_coefficients (list_product xs ys))))
    (scaled_coefficients-first F (element_product x y) (scaled_coefficients x ys) (scaled_coefficients y xs)
    ∙ ap (λ (c : ℕ). sum_of (c ∷ scaled_coefficients y xs) (shifted_coefficients (scaled_coefficients x ys))) (F.product_comm x y))
    ∙ sum_assoc (element_product y x ∷ scaled_coefficients y xs) (shifted_coefficients (scaled_coefficients x ys)) (shifted_coefficients (shifted_coefficients (list_product xs ys)))
    ∙ ap₂ sum_of (sym (scaled_coefficients-cons y x xs))
    (sym (ap shifted_coefficients (product-cons x xs ys) ∙ shifted_coefficients-sum (scaled_coefficients x ys) (shifted_coefficients (list_product xs ys))))

pub product_comm : (F : IsField 391) (xs ys : List ℕ) → list_product xs ys ≡ list_product ys xs
product_comm F xs [] = product-empty_right xs ∙ sym (product-empty_left xs)
product_comm F xs (y ∷ ys) =
    product-cons_right F y xs ys ∙ ap (λ (us : List ℕ). sum_of (scaled_coefficients y xs) (shifted_coefficients us)) (product_comm F xs ys)
    ∙ sym (product-cons y ys xs)

pub product_assoc : (F : IsField 391) (xs ys zs : List ℕ) → list_product (list_product xs ys) zs ≡ list_product xs (list_product ys zs)
product_assoc F [] ys zs =
    ap (λ (us : List ℕ). list_product us zs) (product-empty_left ys) ∙ product-empty_left zs ∙ sym (product-empty_left (list_product ys zs))
product_assoc F (x ∷ xs) ys zs =
    ap (λ (us : List ℕ). list_product us zs) (product-cons x xs ys)
    ∙ product-sum_left F (scaled_coefficients x ys) (shifted_coefficients (list_product xs ys)) zs
    ∙ ap₂ sum_of (product-scaled_left F x ys zs)
    (product-shifted_left F (list_product xs ys) zs ∙ ap shifted_coefficients (product_assoc F xs ys zs))
    ∙ sym (product-cons x xs (list_product ys zs))

pub product-one : (F : IsField 391) (xs : List ℕ) → ((k : ℕ) → get_or xs k 0 < 256) → list_product (1 ∷ []) xs ≡ xs
unfolding list_product shifted_coefficients
product-one F xs h = sum-empty_right (scaled_coefficients 1 xs) ∙ scaled_coefficients-one F xs h

pub length-product : (xs ys : List ℕ) → 0 < length xs → 0 < length ys → length (list_product xs ys) + 1 ≡ length xs + length ys
length-product [] ys h h' = absurd (omega arith)
length-product (x ∷ []) ys h h' =
    let e : length (list_product (x ∷ []) ys) ≡ length ys = ap length (product-single x ys) ∙ length-scaled_coefficients x ys in omega arith
length-product (x ∷ x' ∷ xs) ys h h' =
    let rest : length (list_product (x' ∷ xs) ys) + 1 ≡ length (x' ∷ xs) + length ys = length-product (x' ∷ xs) ys (omega arith) h' in
    let s : length (shifted_coefficients (list_product (x' ∷ xs) ys)) ≡ length (list_product (x' ∷ xs) ys) + 1 =
    length-shifted_more (list_product (x' ∷ xs) ys) (omega arith) in
    let l : length (sum_of (scaled_coefficients x ys) (shifted_coefficients (list_product (x' ∷ xs) ys))) ≡ length (shifted_coefficients (list_product (x' ∷ xs) ys)) =
    length-sum_right (scaled_coefficients x ys) (shifted_coefficients (list_product (x' ∷ xs) ys)) (omega (arith, length-scaled_coefficients x ys)) in
    let e : length (list_product (x ∷ x' ∷ xs) ys) ≡ length (sum_of (scaled_coefficients x ys) (shifted_coefficients (list_product (x' ∷ xs) ys))) =
    ap length (product-cons x (x' ∷ xs) ys) in
    omega arith

-- ---- the coefficients of a product
pub coefficient-product_first :
    (F : IsField 391) (x : ℕ) (xs ys : List ℕ) → get_or (list_product (x ∷ xs) ys) 0 0 ≡ element_product x (get_or ys 0 0)
coefficient-product_first F x xs ys =
    ap (λ (us : List ℕ). get_or us 0 0) (product-cons x xs ys)
    ∙ coefficient-sum (scaled_coefficients x ys) (shifted_coefficients (list_product xs ys)) 0
    ∙ ap₂ bit_xor (coefficient-scaled_coefficients F x ys 0) (coefficient-shifted_first (list_product xs ys))
    ∙ xor_zero_r (element_product x (get_or ys 0 0))

pub coefficient-product :
    (F : IsField 391) (x : ℕ) (xs ys : List ℕ) (k : ℕ)
    → get_or (list_product (x ∷ xs) ys) (suc k) 0 ≡ bit_xor (element_product x (get_or ys (suc k) 0)) (get_or (list_product xs ys) k 0)
coefficient-product F x xs ys k =
    ap (λ (us : List ℕ). get_or us (suc k) 0) (product-cons x xs ys)
    ∙ coefficient-sum (scaled_coefficients x ys) (shifted_coefficients (list_product xs ys)) (suc k)
    ∙ ap₂ bit_xor (coefficient-scaled_coefficients F x ys (suc k)) (coefficient-shifted_coefficients (list_product xs ys) k)

pub coefficient-product_past :
    (F : IsField 391) (xs ys : List ℕ) (k : ℕ) → length xs + length ys ≤ suc k → get_or (list_product xs ys) k 0 ≡ 0
coefficient-product_past F [] ys k h = ap (λ (us : List ℕ). get_or us k 0) (product-empty_left ys)
coefficient-product_past F (x ∷ xs) ys zero h =
    let none : get_or ys 0 0 ≡ 0 = get_or_past ys 0 0 (omega arith) in
    coefficient-product_first F x xs ys ∙ ap (element_product x) none ∙ F.product_zero_right x
coefficient-product_past F (x ∷ xs) ys (suc k) h =
    let none : get_or ys (suc k) 0 ≡ 0 = get_or_past ys (suc k) 0 (omega arith) in
    coefficient-product F x xs ys k
    ∙ ap₂ bit_xor (ap (element_product x) none ∙ F.product_zero_right x) (coefficient-product_past F xs ys k (omega arith))
