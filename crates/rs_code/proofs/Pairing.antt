-- The pairing of a polynomial with a row of sums: it is linear, and a polynomial times a power of x meets the row further on.
use Rattle.std.proofs.Common.{◌≡◌, ℕ, zero, suc, ◌+◌, ◌-◌, ◌<◌, ◌≤◌, List, [], ◌∷◌, length, get_or, take, lit<, refl, sym, ◌∙◌, ap, ap₂, arith}
use Rattle.std.specs.Int.Bits.{bit_xor, xor_zero_r, xor_zero_l}
use Rattle.std.proofs.lemmas.List.{get_or_past, length-take}
use Rattle.bit_fields.specs.Xors.{xor-shuffle}
use Rattle.gf256_core.specs.Field.{IsField}
use Rattle.poly256.specs.Polynomial.{element_product, sum_of, scaled_coefficients, shifted_coefficients, raised_coefficients}
use Rattle.poly256.specs.Laws.{HasDegrees}
use Rattle.rs_code.specs.Mending.{paired_sum}

pub paired_sum-empty : (row : ℕ → ℕ) → paired_sum [] row ≡ 0
unfolding paired_sum
paired_sum-empty row = refl

pub paired_sum-cons :
    (c : ℕ) (cs : List ℕ) (row : ℕ → ℕ)
    → paired_sum (c ∷ cs) row ≡ bit_xor (element_product c (row 0)) (paired_sum cs (λ k. row (suc k)))
unfolding paired_sum
paired_sum-cons c cs row = refl

pub paired_sum-same_below :
    (cs : List ℕ) (row other : ℕ → ℕ) → ((k : ℕ) → k < length cs → row k ≡ other k) → paired_sum cs row ≡ paired_sum cs other
unfolding paired_sum
paired_sum-same_below [] row other e = refl
paired_sum-same_below (c ∷ cs) row other e =
    ap₂ bit_xor (ap (element_product c) (e 0 (omega arith)))
    (paired_sum-same_below cs (λ k. row (suc k)) (λ k. other (suc k)) (λ k h. e (suc k) (omega arith)))

pub paired_sum-same : (cs : List ℕ) (row other : ℕ → ℕ) → ((k : ℕ) → row k ≡ other k) → paired_sum cs row ≡ paired_sum cs other
paired_sum-same cs row other e = paired_sum-same_below cs row other (λ k h. e k)

pub paired_sum-fits : (F : IsField 391) (cs : List ℕ) (row : ℕ → ℕ) → paired_sum cs row < 256
unfolding paired_sum
paired_sum-fits F [] row = lit< tt
paired_sum-fits F (c ∷ cs) row =
    F.sum_fits (element_product c (row 0)) (paired_sum cs (λ k. row (suc k))) (F.product_fits c (row 0))
    (paired_sum-fits F cs (λ k. row (suc k)))

pub paired_sum-zeros :
    (F : IsField 391) (cs : List ℕ) (row : ℕ → ℕ) → ((k : ℕ) → get_or cs k 0 ≡ 0) → paired_sum cs row ≡ 0
unfolding paired_sum
paired_sum-zeros F [] row zeros = refl
paired_sum-zeros F (c ∷ cs) row zeros =
    ap₂ bit_xor (ap (λ (a : ℕ). element_product a (row 0)) (zeros 0) ∙ F.product_zero (row 0))
    (paired_sum-zeros F cs (λ k. row (suc k)) (λ k. zeros (suc k)))
    ∙ xor_zero_r 0

paired_sum-sum :
    (F : IsField 391) (xs ys : List ℕ) (row : ℕ → ℕ)
    → paired_sum (sum_of xs ys) row ≡ bit_xor (paired_sum xs row) (paired_sum ys row)
unfolding paired_sum sum_of
paired_sum-sum F [] ys row = sym (xor_zero_l (paired_sum ys row))
paired_sum-sum F (x ∷ xs) [] row = sym (xor_zero_r (paired_sum (x ∷ xs) row))
paired_sum-sum F (x ∷ xs) (y ∷ ys) row =
    ap₂ bit_xor (F.distributive x y (row 0)) (paired_sum-sum F xs ys (λ k. row (suc k)))
    ∙ xor-shuffle (element_product x (row 0)) (element_product y (row 0)) (paired_sum xs (λ k. row (suc k))) (paired_sum ys (λ k. row (suc k)))

paired_sum-scaled :
    (F : IsField 391) (c : ℕ) (xs : List ℕ) (row : ℕ → ℕ)
    → paired_sum (scaled_coefficients c xs) row ≡ element_product c (paired_sum xs row)
unfolding paired_sum scaled_coefficients
paired_sum-scaled F c [] row = sym (F.product_zero_right c)
paired_sum-scaled F c (x ∷ xs) row =
    ap₂ bit_xor (F.product_assoc c x (row 0)) (paired_sum-scaled F c xs (λ k. row (suc k)))
    ∙ sym (F.distributive_right c (element_product x (row 0)) (paired_sum xs (λ k. row (suc k))))

paired_sum-shifted :
    (F : IsField 391) (xs : List ℕ) (row : ℕ → ℕ) → paired_sum (shifted_coefficients xs) row ≡ paired_sum xs (λ k. row (suc k))
unfolding paired_sum shifted_coefficients
paired_sum-shifted F [] row = refl
paired_sum-shifted F (x ∷ xs) row =
    ap (λ (a : ℕ). bit_xor a (paired_sum (x ∷ xs) (λ k. row (suc k)))) (F.product_zero (row 0))
    ∙ xor_zero_l (paired_sum (x ∷ xs) (λ k. row (suc k)))

paired_sum-raised :
    (F : IsField 391) (n : ℕ) (xs : List ℕ) (row : ℕ → ℕ)
    → paired_sum (raised_coefficients n xs) row ≡ paired_sum xs (λ k. row (n + k))
unfolding raised_coefficients
paired_sum-raised F zero xs row = paired_sum-same xs row (λ k. row (0 + k)) (λ k. ap row (let e : k ≡ 0 + k = omega arith in e))
paired_sum-raised F (suc n) xs row =
    paired_sum-shifted F (raised_coefficients n xs) row
    ∙ paired_sum-raised F n xs (λ k. row (suc k))
    ∙ paired_sum-same xs (λ k. row (suc (n + k))) (λ k. row (suc n + k)) (λ k. ap row (let e : suc (n + k) ≡ suc n + k = omega arith in e))

-- a front behind which all is 0
pub paired_sum-front :
    (F : IsField 391) (n : ℕ) (xs : List ℕ) (row : ℕ → ℕ) → ((k : ℕ) → n ≤ k → get_or xs k 0 ≡ 0)
    → paired_sum (take n xs) row ≡ paired_sum xs row
unfolding paired_sum
paired_sum-front F zero xs row zeros = sym (paired_sum-zeros F xs row (λ k. zeros k (omega arith)))
paired_sum-front F (suc n) [] row zeros = refl
paired_sum-front F (suc n) (x ∷ xs) row zeros =
    ap (bit_xor (element_product x (row 0)))
    (paired_sum-front F n xs (λ k. row (suc k)) (λ k h. zeros (suc k) (omega arith)))

-- a multiple of a polynomial, raised, is added
pub paired_sum-add :
    (F : IsField 391) (room list sums : List ℕ) (place f n j : ℕ) → ((k : ℕ) → n ≤ k → get_or list k 0 ≡ 0)
    → paired_sum (sum_of room (raised_coefficients place (scaled_coefficients f (take n list)))) (λ k. get_or sums (j + k) 0)
    ≡ bit_xor (paired_sum room (λ k. get_or sums (j + k) 0)) (element_product f (paired_sum list (λ k. get_or sums (j + place + k) 0)))
paired_sum-add F room list sums place f n j zeros =
    paired_sum-sum F room (raised_coefficients place (scaled_coefficients f (take n list))) (λ k. get_or sums (j + k) 0)
    ∙ ap (bit_xor (paired_sum room (λ k. get_or sums (j + k) 0)))
    (paired_sum-raised F place (scaled_coefficients f (take n list)) (λ k. get_or sums (j + k) 0)
    ∙ paired_sum-scaled F f (take n list) (λ k. get_or sums (j + (place + k)) 0)
    ∙ ap (element_product f)
    (paired_sum-front F n list (λ k. get_or sums (j + (place + k)) 0) zeros
    ∙ paired_sum-same list (λ k. get_or sums (j + (place + k)) 0) (λ k. get_or sums (j + place + k) 0)
    (λ k. ap (λ (i : ℕ). get_or sums i 0) (let e : j + (place + k) ≡ j + place + k = omega arith in e))))

-- the coefficients that the multiple reaches
pub get_or-add :
    (F : IsField 391) (D : HasDegrees) (room list : List ℕ) (place f n i k : ℕ) → place + i ≡ k
    → get_or (sum_of room (raised_coefficients place (scaled_coefficients f (take n list)))) k 0
    ≡ bit_xor (get_or room k 0) (element_product f (get_or (take n list) i 0))
get_or-add F D room list place f n i k e =
    D.sum_coefficient room (raised_coefficients place (scaled_coefficients f (take n list))) k
    ∙ ap (bit_xor (get_or room k 0))
    (ap (λ (m : ℕ). get_or (raised_coefficients place (scaled_coefficients f (take n list))) m 0) (sym e)
    ∙ D.raised_coefficient place (scaled_coefficients f (take n list)) i
    ∙ D.scaled_coefficient f (take n list) i)

-- and those above it
pub get_or-add_above :
    (F : IsField 391) (D : HasDegrees) (room list : List ℕ) (place f n k : ℕ) → place + n ≤ k
    → get_or (sum_of room (raised_coefficients place (scaled_coefficients f (take n list)))) k 0 ≡ get_or room k 0
get_or-add_above F D room list place f n k h =
    get_or-add F D room list place f n (k - place) k (omega arith)
    ∙ ap (bit_xor (get_or room k 0))
    (ap (element_product f) (get_or_past (take n list) (k - place) 0 (omega (arith, length-take n list))) ∙ F.product_zero_right f)
    ∙ xor_zero_r (get_or room k 0)
