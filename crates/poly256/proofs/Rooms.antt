-- A list with room that sums are written into, one coefficient after another.
use Rattle.std.proofs.Common.{◌≡◌, ℕ, zero, suc, ◌+◌, ◌-◌, ◌<◌, ◌≤◌, List, [], ◌∷◌, length, get_or, set, take, drop, refl, sym, ◌∙◌, ap, ap₂, arith, inl, inr, drop-cons, add-one}
use Rattle.std.specs.Int.Bits.{bit_xor, xor_zero_r}
use Rattle.poly256.specs.Polynomial.{element_product, sum_of, scaled_coefficients, shifted_coefficients, raised_coefficients, list_product, trimmed_coefficients}
use Rattle.std.proofs.lemmas.List.{get_or_past, get_or-take, length-take}
use Rattle.std.proofs.Math.Seq.{drop-length}
use Rattle.std.proofs.lemmas.Bool.{cases_eq, cases_lt}
use Rattle.poly256.proofs.Trims.{trimmed_from_same, trimmed_from_last}
use Rattle.poly256.proofs.ListSums.{sum-empty_right, scaled_coefficients-cons, shifted_coefficients-sum, sum_assoc, coefficient-shifted_coefficients, coefficient-shifted_first, length-shifted_at_most}
use Rattle.poly256.proofs.ListProducts.{product-cons, product-empty_left}

pub raised_coefficients-empty : (n : ℕ) → raised_coefficients n [] ≡ []
unfolding raised_coefficients shifted_coefficients
raised_coefficients-empty zero = refl
raised_coefficients-empty (suc n) = ap shifted_coefficients (raised_coefficients-empty n)

sum-cons_shifted : (r : ℕ) (us vs : List ℕ) → sum_of (r ∷ us) (shifted_coefficients vs) ≡ r ∷ sum_of us vs
unfolding sum_of shifted_coefficients
sum-cons_shifted r us [] = ap (λ (xs : List ℕ). r ∷ xs) (sym (sum-empty_right us))
sum-cons_shifted r us (v ∷ vs) = ap (λ (x : ℕ). x ∷ sum_of us (v ∷ vs)) (xor_zero_r r)

sum-first : (r c : ℕ) (us vs : List ℕ) → sum_of (bit_xor r c ∷ us) (shifted_coefficients vs) ≡ sum_of (r ∷ us) (c ∷ vs)
unfolding sum_of
sum-first r c us vs = sum-cons_shifted (bit_xor r c) us vs

-- one coefficient is added, and what is left has a power more
pub sum-set :
    (room : List ℕ) (j c : ℕ) (rest : List ℕ) → j < length room
    → sum_of (set room j (bit_xor (get_or room j 0) c)) (raised_coefficients (suc j) rest) ≡ sum_of room (raised_coefficients j (c ∷ rest))
unfolding raised_coefficients
sum-set [] j c rest h = absurd (omega arith)
sum-set (r ∷ room) zero c rest h = sum-first r c room rest
sum-set (r ∷ room) (suc j) c rest h =
    sum-cons_shifted r (set room j (bit_xor (get_or room j 0) c)) (raised_coefficients (suc j) rest)
    ∙ ap (λ (xs : List ℕ). r ∷ xs) (sum-set room j c rest (omega arith))
    ∙ sym (sum-cons_shifted r room (raised_coefficients j (c ∷ rest)))

pub drop-all : (n : ℕ) (list : List ℕ) → n ≡ length list → drop n list ≡ []
drop-all n list e = rw e (drop-length list)

scaled_coefficients-empty : (f : ℕ) → scaled_coefficients f [] ≡ []
unfolding scaled_coefficients
scaled_coefficients-empty f = refl

pub raised_coefficients-zero : (cs : List ℕ) → raised_coefficients 0 cs ≡ cs
unfolding raised_coefficients
raised_coefficients-zero cs = refl

-- the steps of the loops
pub list_step :
    (room list : List ℕ) (i : ℕ) → i < length room → i < length list
    → sum_of (set room i (bit_xor (get_or room i 0) (get_or list i 0))) (raised_coefficients (i + 1) (drop (i + 1) list))
    ≡ sum_of room (raised_coefficients i (drop i list))
list_step room list i h h' =
    ap (λ (k : ℕ). sum_of (set room i (bit_xor (get_or room i 0) (get_or list i 0))) (raised_coefficients k (drop k list))) (add-one i)
    ∙ sum-set room i (get_or list i 0) (drop (suc i) list) h
    ∙ ap (λ (xs : List ℕ). sum_of room (raised_coefficients i xs)) (sym (drop-cons list i 0 h'))

pub multiple_step :
    (room list : List ℕ) (place i f : ℕ) → place + i < length room → i < length list
    → sum_of (set room (place + i) (bit_xor (get_or room (place + i) 0) (element_product f (get_or list i 0))))
    (raised_coefficients (place + (i + 1)) (scaled_coefficients f (drop (i + 1) list)))
    ≡ sum_of room (raised_coefficients (place + i) (scaled_coefficients f (drop i list)))
multiple_step room list place i f h h' =
    ap₂ (λ (j k : ℕ). sum_of (set room (place + i) (bit_xor (get_or room (place + i) 0) (element_product f (get_or list i 0))))
    (raised_coefficients j (scaled_coefficients f (drop k list))))
    (let e : place + (i + 1) ≡ suc (place + i) = omega arith in e) (add-one i)
    ∙ sum-set room (place + i) (element_product f (get_or list i 0)) (scaled_coefficients f (drop (suc i) list)) h
    ∙ ap (λ (xs : List ℕ). sum_of room (raised_coefficients (place + i) xs))
    (sym (ap (scaled_coefficients f) (drop-cons list i 0 h') ∙ scaled_coefficients-cons f (get_or list i 0) (drop (suc i) list)))

-- nothing is left at the end
pub list_end : (room list : List ℕ) (n : ℕ) → n ≡ length list → sum_of room (raised_coefficients n (drop n list)) ≡ room
list_end room list n e =
    ap (λ (xs : List ℕ). sum_of room (raised_coefficients n xs)) (drop-all n list e) ∙ ap (sum_of room) (raised_coefficients-empty n) ∙ sum-empty_right room

pub multiple_end :
    (room list : List ℕ) (place n f : ℕ) → n ≡ length list → sum_of room (raised_coefficients (place + n) (scaled_coefficients f (drop n list))) ≡ room
multiple_end room list place n f e =
    ap (λ (xs : List ℕ). sum_of room (raised_coefficients (place + n) (scaled_coefficients f xs))) (drop-all n list e)
    ∙ ap (λ (xs : List ℕ). sum_of room (raised_coefficients (place + n) xs)) (scaled_coefficients-empty f)
    ∙ ap (sum_of room) (raised_coefficients-empty (place + n)) ∙ sum-empty_right room

raised_coefficients-sum : (n : ℕ) (us vs : List ℕ) → raised_coefficients n (sum_of us vs) ≡ sum_of (raised_coefficients n us) (raised_coefficients n vs)
unfolding raised_coefficients
raised_coefficients-sum zero us vs = refl
raised_coefficients-sum (suc n) us vs = ap shifted_coefficients (raised_coefficients-sum n us vs) ∙ shifted_coefficients-sum (raised_coefficients n us) (raised_coefficients n vs)

raised_coefficients-shifted : (n : ℕ) (cs : List ℕ) → raised_coefficients n (shifted_coefficients cs) ≡ raised_coefficients (suc n) cs
unfolding raised_coefficients
raised_coefficients-shifted zero cs = refl
raised_coefficients-shifted (suc n) cs = ap shifted_coefficients (raised_coefficients-shifted n cs)

pub product_step :
    (room first second : List ℕ) (place : ℕ) → place < length first
    → sum_of (sum_of room (raised_coefficients place (scaled_coefficients (get_or first place 0) second))) (raised_coefficients (place + 1) (list_product (drop (place + 1) first) second))
    ≡ sum_of room (raised_coefficients place (list_product (drop place first) second))
product_step room first second place h =
    let x : ℕ = get_or first place 0 in
    ap (λ (k : ℕ). sum_of (sum_of room (raised_coefficients place (scaled_coefficients (get_or first place 0) second))) (raised_coefficients k (list_product (drop k first) second))) (add-one place)
    ∙ sum_assoc room (raised_coefficients place (scaled_coefficients (get_or first place 0) second)) (raised_coefficients (suc place) (list_product (drop (suc place) first) second))
    ∙ ap (sum_of room)
    (ap (sum_of (raised_coefficients place (scaled_coefficients (get_or first place 0) second))) (sym (raised_coefficients-shifted place (list_product (drop (suc place) first) second)))
    ∙ sym (raised_coefficients-sum place (scaled_coefficients (get_or first place 0) second) (shifted_coefficients (list_product (drop (suc place) first) second)))
    ∙ ap (raised_coefficients place) (sym (product-cons (get_or first place 0) (drop (suc place) first) second)
    ∙ ap (λ (xs : List ℕ). list_product xs second) (sym (drop-cons first place 0 h))))

pub product_end :
    (room first second : List ℕ) (n : ℕ) → n ≡ length first → sum_of room (raised_coefficients n (list_product (drop n first) second)) ≡ room
product_end room first second n e =
    ap (λ (xs : List ℕ). sum_of room (raised_coefficients n (list_product xs second))) (drop-all n first e)
    ∙ ap (λ (xs : List ℕ). sum_of room (raised_coefficients n xs)) (product-empty_left second)
    ∙ ap (sum_of room) (raised_coefficients-empty n) ∙ sum-empty_right room

pub coefficient-raised_coefficients : (n : ℕ) (us : List ℕ) (j : ℕ) → get_or (raised_coefficients n us) (n + j) 0 ≡ get_or us j 0
unfolding raised_coefficients
coefficient-raised_coefficients zero us j = ap (λ (k : ℕ). get_or us k 0) (let e : 0 + j ≡ j = omega arith in e)
coefficient-raised_coefficients (suc n) us j =
    ap (λ (k : ℕ). get_or (shifted_coefficients (raised_coefficients n us)) k 0) (let e : suc n + j ≡ suc (n + j) = omega arith in e)
    ∙ coefficient-shifted_coefficients (raised_coefficients n us) (n + j) ∙ coefficient-raised_coefficients n us j

pub coefficient-raised_below : (n : ℕ) (us : List ℕ) (k : ℕ) → k < n → get_or (raised_coefficients n us) k 0 ≡ 0
unfolding raised_coefficients
coefficient-raised_below zero us k h = absurd (omega arith)
coefficient-raised_below (suc n) us zero h = coefficient-shifted_first (raised_coefficients n us)
coefficient-raised_below (suc n) us (suc k) h =
    coefficient-shifted_coefficients (raised_coefficients n us) k ∙ coefficient-raised_below n us k (omega arith)

pub length-raised_coefficients : (n : ℕ) (us : List ℕ) → length (raised_coefficients n us) ≤ n + length us
unfolding raised_coefficients
length-raised_coefficients zero us = omega arith
length-raised_coefficients (suc n) us =
    let l = length-shifted_at_most (raised_coefficients n us) in let m = length-raised_coefficients n us in omega arith

-- ---- the front of a list
pub coefficient-take_past : (xs : List ℕ) (n k : ℕ) → n ≤ k → get_or (take n xs) k 0 ≡ 0
coefficient-take_past xs n k h = get_or_past (take n xs) k 0 (omega (arith, length-take n xs))

-- one zero less at the end
pub trimmed_coefficients-take_zero : (xs : List ℕ) (m : ℕ) → 0 < m → get_or xs (m - 1) 0 ≡ 0 → trimmed_coefficients (take (m - 1) xs) ≡ trimmed_coefficients (take m xs)
trimmed_coefficients-take_zero xs m h none = trimmed_from_same (take (m - 1) xs) (take m xs) (λ k. elim (cases_lt k (m - 1)) [
  | inl inside ↦ get_or-take (m - 1) xs k 0 inside ∙ sym (get_or-take m xs k 0 (omega arith))
  | inr past ↦
      coefficient-take_past xs (m - 1) k past
      ∙ sym (elim (cases_eq k (m - 1)) [
        | inl last ↦ rw last (get_or-take m xs (m - 1) 0 (omega arith) ∙ none)
        | inr further ↦ coefficient-take_past xs m k (omega arith)
      ])
])

-- no zero at the end
pub trimmed_coefficients-take_here : (xs : List ℕ) (m : ℕ) → 0 < m → m ≤ length xs → 0 < get_or xs (m - 1) 0 → trimmed_coefficients (take m xs) ≡ take m xs
trimmed_coefficients-take_here xs m h fits some =
    trimmed_from_last (take m xs) (m - 1) (omega (arith, length-take m xs))
    (rw (get_or-take m xs (m - 1) 0 (let l : m - 1 < m = omega arith in l)) some)
