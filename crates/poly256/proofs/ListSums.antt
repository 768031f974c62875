-- Sums of lists of coefficients, lists times an element and lists times x.
use Rattle.std.proofs.Common.{◌≡◌, ℕ, zero, suc, ◌+◌, ◌<◌, ◌≤◌, List, [], ◌∷◌, length, get_or, refl, sym, ◌∙◌, ap, ap₂, arith}
use Rattle.std.specs.Int.Bits.{bit_xor, xor_zero_r, xor_assoc}
use Rattle.std.proofs.lemmas.Nat.{xor_comm}
use Rattle.gf256_core.specs.Field.{IsField}
use Rattle.poly256.specs.Polynomial.{element_product, sum_of, scaled_coefficients, shifted_coefficients}

-- ---- sums
pub sum-empty_right : (xs : List ℕ) → sum_of xs [] ≡ xs
unfolding sum_of
sum-empty_right [] = refl
sum-empty_right (x ∷ xs) = refl

pub sum_comm : (xs ys : List ℕ) → sum_of xs ys ≡ sum_of ys xs
unfolding sum_of
sum_comm [] ys = sym (sum-empty_right ys)
sum_comm (x ∷ xs) [] = refl
sum_comm (x ∷ xs) (y ∷ ys) = ap₂ (λ (a : ℕ) (us : List ℕ). a ∷ us) (xor_comm x y) (sum_comm xs ys)

pub sum_assoc : (xs ys zs : List ℕ) → sum_of (sum_of xs ys) zs ≡ sum_of xs (sum_of ys zs)
unfolding sum_of
sum_assoc [] ys zs = refl
sum_assoc (x ∷ xs) [] zs = refl
sum_assoc (x ∷ xs) (y ∷ ys) [] = refl
sum_assoc (x ∷ xs) (y ∷ ys) (z ∷ zs) = ap₂ (λ (a : ℕ) (us : List ℕ). a ∷ us) (xor_assoc x y z) (sum_assoc xs ys zs)

pub sum-shuffle : (us vs cs ds : List ℕ) → sum_of (sum_of us vs) (sum_of cs ds) ≡ sum_of (sum_of us cs) (sum_of vs ds)
sum-shuffle us vs cs ds =
    sum_assoc us vs (sum_of cs ds)
    ∙ ap (sum_of us) (sym (sum_assoc vs cs ds) ∙ ap (λ (xs : List ℕ). sum_of xs ds) (sum_comm vs cs) ∙ sum_assoc cs vs ds)
    ∙ sym (sum_assoc us cs (sum_of vs ds))

pub coefficient-sum : (xs ys : List ℕ) (k : ℕ) → get_or (sum_of xs ys) k 0 ≡ bit_xor (get_or xs k 0) (get_or ys k 0)
unfolding sum_of
coefficient-sum [] ys k = refl
coefficient-sum (x ∷ xs) [] k = sym (xor_zero_r (get_or (x ∷ xs) k 0))
coefficient-sum (x ∷ xs) (y ∷ ys) zero = refl
coefficient-sum (x ∷ xs) (y ∷ ys) (suc k) = coefficient-sum xs ys k

pub length-sum_left : (xs ys : List ℕ) → length ys ≤ length xs → length (sum_of xs ys) ≡ length xs
unfolding sum_of
length-sum_left [] [] h = refl
length-sum_left [] (y ∷ ys) h = absurd (omega arith)
length-sum_left (x ∷ xs) [] h = refl
length-sum_left (x ∷ xs) (y ∷ ys) h = ap suc (length-sum_left xs ys (omega arith))

pub length-sum_right : (xs ys : List ℕ) → length xs ≤ length ys → length (sum_of xs ys) ≡ length ys
length-sum_right xs ys h = ap length (sum_comm xs ys) ∙ length-sum_left ys xs h

pub length-sum_at_least : (xs ys : List ℕ) → length xs ≤ length (sum_of xs ys)
unfolding sum_of
length-sum_at_least [] ys = omega arith
length-sum_at_least (x ∷ xs) [] = omega arith
length-sum_at_least (x ∷ xs) (y ∷ ys) = let rest : length xs ≤ length (sum_of xs ys) = length-sum_at_least xs ys in omega arith

pub length-sum_at_most : (xs ys : List ℕ) (n : ℕ) → length xs ≤ n → length ys ≤ n → length (sum_of xs ys) ≤ n
unfolding sum_of
length-sum_at_most [] ys n hx hy = hy
length-sum_at_most (x ∷ xs) [] n hx hy = hx
length-sum_at_most (x ∷ xs) (y ∷ ys) zero hx hy = absurd (omega arith)
length-sum_at_most (x ∷ xs) (y ∷ ys) (suc n) hx hy =
    let rest : length (sum_of xs ys) ≤ n = length-sum_at_most xs ys n (omega arith) (omega arith) in omega arith

-- ---- an element times a list
pub scaled_coefficients-cons : (c x : ℕ) (xs : List ℕ) → scaled_coefficients c (x ∷ xs) ≡ element_product c x ∷ scaled_coefficients c xs
unfolding scaled_coefficients
scaled_coefficients-cons c x xs = refl

pub scaled_coefficients-sum : (F : IsField 391) (c : ℕ) (xs ys : List ℕ) → scaled_coefficients c (sum_of xs ys) ≡ sum_of (scaled_coefficients c xs) (scaled_coefficients c ys)
unfolding sum_of scaled_coefficients
scaled_coefficients-sum F c [] ys = refl
scaled_coefficients-sum F c (x ∷ xs) [] = refl
scaled_coefficients-sum F c (x ∷ xs) (y ∷ ys) = ap₂ (λ (a : ℕ) (us : List ℕ). a ∷ us) (F.distributive_right c x y) (scaled_coefficients-sum F c xs ys)

pub scaled_coefficients-xor : (F : IsField 391) (c d : ℕ) (xs : List ℕ) → scaled_coefficients (bit_xor c d) xs ≡ sum_of (scaled_coefficients c xs) (scaled_coefficients d xs)
unfolding sum_of scaled_coefficients
scaled_coefficients-xor F c d [] = refl
scaled_coefficients-xor F c d (x ∷ xs) = ap₂ (λ (a : ℕ) (us : List ℕ). a ∷ us) (F.distributive c d x) (scaled_coefficients-xor F c d xs)

pub scaled_coefficients-scaled_coefficients : (F : IsField 391) (c d : ℕ) (xs : List ℕ) → scaled_coefficients c (scaled_coefficients d xs) ≡ scaled_coefficients (element_product c d) xs
unfolding scaled_coefficients
scaled_coefficients-scaled_coefficients F c d [] = refl
scaled_coefficients-scaled_coefficients F c d (x ∷ xs) = ap₂ (λ (a : ℕ) (us : List ℕ). a ∷ us) (sym (F.product_assoc c d x)) (scaled_coefficients-scaled_coefficients F c d xs)

pub length-scaled_coefficients : (c : ℕ) (xs : List ℕ) → length (scaled_coefficients c xs) ≡ length xs
unfolding scaled_coefficients
length-scaled_coefficients c [] = refl
length-scaled_coefficients c (x ∷ xs) = ap suc (length-scaled_coefficients c xs)

pub coefficient-scaled_coefficients : (F : IsField 391) (c : ℕ) (xs : List ℕ) (k : ℕ) → get_or (scaled_coefficients c xs) k 0 ≡ element_product c (get_or xs k 0)
unfolding scaled_coefficients
coefficient-scaled_coefficients F c [] k = sym (F.product_zero_right c)
coefficient-scaled_coefficients F c (x ∷ xs) zero = refl
coefficient-scaled_coefficients F c (x ∷ xs) (suc k) = coefficient-scaled_coefficients F c xs k

pub scaled_coefficients-one : (F : IsField 391) (xs : List ℕ) → ((k : ℕ) → get_or xs k 0 < 256) → scaled_coefficients 1 xs ≡ xs
unfolding scaled_coefficients
scaled_coefficients-one F [] h = refl
scaled_coefficients-one F (x ∷ xs) h = ap₂ (λ (a : ℕ) (us : List ℕ). a ∷ us) (F.product_one x (h 0)) (scaled_coefficients-one F xs (λ k. h (suc k)))

-- zeros for each member of a list that is no longer change nothing
pub sum-scaled_zero : (F : IsField 391) (xs ys : List ℕ) → length xs ≤ length ys → sum_of (scaled_coefficients 0 xs) ys ≡ ys
unfolding sum_of scaled_coefficients
sum-scaled_zero F [] ys h = refl
sum-scaled_zero F (x ∷ xs) [] h = absurd (omega arith)
sum-scaled_zero F (x ∷ xs) (y ∷ ys) h =
    ap₂ (λ (a : ℕ) (us : List ℕ). a ∷ us) (ap (λ (a : ℕ). bit_xor a y) (F.product_zero x)) (sum-scaled_zero F xs ys (omega arith))

-- ---- x times a list
pub shifted_coefficients-sum : (xs ys : List ℕ) → shifted_coefficients (sum_of xs ys) ≡ sum_of (shifted_coefficients xs) (shifted_coefficients ys)
unfolding sum_of shifted_coefficients
shifted_coefficients-sum [] ys = refl
shifted_coefficients-sum (x ∷ xs) [] = refl
shifted_coefficients-sum (x ∷ xs) (y ∷ ys) = refl

pub scaled-shifted_coefficients : (F : IsField 391) (c : ℕ) (xs : List ℕ) → scaled_coefficients c (shifted_coefficients xs) ≡ shifted_coefficients (scaled_coefficients c xs)
unfolding scaled_coefficients shifted_coefficients
scaled-shifted_coefficients F c [] = refl
scaled-shifted_coefficients F c (x ∷ xs) = ap (λ (a : ℕ). a ∷ element_product c x ∷ scaled_coefficients c xs) (F.product_zero_right c)

pub length-shifted_coefficients : (xs : List ℕ) → length xs ≤ length (shifted_coefficients xs)
unfolding shifted_coefficients
length-shifted_coefficients [] = omega arith
length-shifted_coefficients (x ∷ xs) = omega arith

pub length-shifted_more : (xs : List ℕ) → 0 < length xs → length (shifted_coefficients xs) ≡ length xs + 1
unfolding shifted_coefficients
length-shifted_more [] h = absurd (omega arith)
length-shifted_more (x ∷ xs) h = omega arith

pub length-shifted_at_most : (xs : List ℕ) → length (shifted_coefficients xs) ≤ suc (length xs)
unfolding shifted_coefficients
length-shifted_at_most [] = omega arith
length-shifted_at_most (x ∷ xs) = omega arith

pub coefficient-shifted_first : (xs : List ℕ) → get_or (shifted_coefficients xs) 0 0 ≡ 0
unfolding shifted_coefficients
coefficient-shifted_first [] = refl
coefficient-shifted_first (x ∷ xs) = refl

pub coefficient-shifted_coefficients : (xs : List ℕ) (k : ℕ) → get_or (shifted_coefficients xs) (suc k) 0 ≡ get_or xs k 0
unfolding shifted_coefficients
coefficient-shifted_coefficients [] k = refl
coefficient-shifted_coefficients (x ∷ xs) k = refl
