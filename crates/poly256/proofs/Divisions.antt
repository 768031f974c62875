-- The steps of a division with rest.
use Rattle.std.proofs.Common.{subst, ◌≡◌, ℕ, zero, suc, ◌+◌, ◌-◌, ◌<◌, ◌≤◌, List, [], ◌∷◌, length, get_or, set, take, sym, ◌∙◌, ap, ap₂, arith, inl, inr, get_or-set_other, ◌≢◌}
use Rattle.std.proofs.lemmas.List.{get_or_past, length-take}
use Rattle.std.proofs.lemmas.Bool.{cases_eq}
use Rattle.std.specs.Int.Bits.{bit_xor, xor_self}
use Rattle.gf256_core.specs.Field.{IsField}
use Rattle.poly256.specs.Polynomial.{element_product, sum_of, scaled_coefficients, shifted_coefficients, raised_coefficients, list_product, trimmed_coefficients, IsDivision}
use Rattle.bit_fields.specs.Xors.{xor-same_right}
use Rattle.poly256.proofs.ListSums.{coefficient-sum, sum-empty_right, coefficient-scaled_coefficients, length-scaled_coefficients}
use Rattle.poly256.proofs.ListProducts.{product-sum_left, product-shifted_left, product-single}
use Rattle.poly256.proofs.Trims.{zeros-product, same-product, trimmed_from_same, length-trimmed_coefficients}
use Rattle.poly256.proofs.Rooms.{sum-set, raised_coefficients-empty, coefficient-raised_coefficients}
use Rattle.poly256.proofs.Shapes.{coefficient-front}

-- the quotient so far times the divisor, and what is left, are the dividend; `top` coefficients are left
pub record Divides (dividend divisor quotient rest : List ℕ) (top len : ℕ) : Type 0 where
  pub whole : (k : ℕ) → get_or (sum_of (list_product quotient divisor) rest) k 0 ≡ get_or dividend k 0
  pub high : (k : ℕ) → top ≤ k → get_or rest k 0 ≡ 0
  pub short : (k : ℕ) → len ≤ k → get_or quotient k 0 ≡ 0
  pub unset : (k : ℕ) → k + length divisor ≤ top → get_or quotient k 0 ≡ 0
  pub within : top ≤ len

pub division_init :
    (F : IsField 391) (dividend divisor quotient : List ℕ) (len : ℕ) → ((k : ℕ) → get_or quotient k 0 ≡ 0)
    → ((k : ℕ) → len ≤ k → get_or dividend k 0 ≡ 0) → Divides dividend divisor quotient dividend len len
division_init F dividend divisor quotient len zeros past = record {
  whole = λ k.
      coefficient-sum (list_product quotient divisor) dividend k
      ∙ ap (λ (a : ℕ). bit_xor a (get_or dividend k 0)) (zeros-product F quotient divisor zeros k);
  high = past;
  short = λ k h. zeros k;
  unset = λ k h. zeros k;
  within = omega arith;
}

raised_coefficients-product : (F : IsField 391) (n c : ℕ) (ds : List ℕ) → list_product (raised_coefficients n (c ∷ [])) ds ≡ raised_coefficients n (scaled_coefficients c ds)
unfolding raised_coefficients
raised_coefficients-product F zero c ds = product-single c ds
raised_coefficients-product F (suc n) c ds = product-shifted_left F (raised_coefficients n (c ∷ [])) ds ∙ ap shifted_coefficients (raised_coefficients-product F n c ds)

set-sum : (xs : List ℕ) (i c : ℕ) → i < length xs → get_or xs i 0 ≡ 0 → set xs i c ≡ sum_of xs (raised_coefficients i (c ∷ []))
set-sum xs i c h none =
    ap (λ (a : ℕ). set xs i (bit_xor a c)) (sym none)
    ∙ sym (sum-empty_right (set xs i (bit_xor (get_or xs i 0) c)))
    ∙ ap (sum_of (set xs i (bit_xor (get_or xs i 0) c))) (sym (raised_coefficients-empty (suc i)))
    ∙ sum-set xs i c [] h

step-whole :
    (F : IsField 391) (divisor quotient rest : List ℕ) (place f k : ℕ) → place < length quotient → get_or quotient place 0 ≡ 0
    → get_or (sum_of (list_product (set quotient place f) divisor) (sum_of rest (raised_coefficients place (scaled_coefficients f divisor)))) k 0
    ≡ get_or (sum_of (list_product quotient divisor) rest) k 0
step-whole F divisor quotient rest place f k h none =
    let multiple : List ℕ = raised_coefficients place (scaled_coefficients f divisor) in
    let more : list_product (set quotient place f) divisor ≡ sum_of (list_product quotient divisor) (raised_coefficients place (scaled_coefficients f divisor)) =
    ap (λ (xs : List ℕ). list_product xs divisor) (set-sum quotient place f h none)
    ∙ product-sum_left F quotient (raised_coefficients place (f ∷ [])) divisor
    ∙ ap (sum_of (list_product quotient divisor)) (raised_coefficients-product F place f divisor) in
    coefficient-sum (list_product (set quotient place f) divisor) (sum_of rest (raised_coefficients place (scaled_coefficients f divisor))) k
    ∙ ap₂ bit_xor
    (ap (λ (xs : List ℕ). get_or xs k 0) more ∙ coefficient-sum (list_product quotient divisor) (raised_coefficients place (scaled_coefficients f divisor)) k)
    (coefficient-sum rest (raised_coefficients place (scaled_coefficients f divisor)) k)
    ∙ xor-same_right (get_or (list_product quotient divisor) k 0) (get_or rest k 0) (get_or (raised_coefficients place (scaled_coefficients f divisor)) k 0)
    ∙ sym (coefficient-sum (list_product quotient divisor) rest k)

-- the multiple takes the first coefficient away, and has none above
step-high :
    (F : IsField 391) (divisor rest : List ℕ) (place f top k : ℕ) → 0 < length divisor → place + length divisor ≡ top
    → element_product f (get_or divisor (length divisor - 1) 0) ≡ get_or rest (top - 1) 0
    → ((j : ℕ) → top ≤ j → get_or rest j 0 ≡ 0) → top - 1 ≤ k → get_or (sum_of rest (raised_coefficients place (scaled_coefficients f divisor))) k 0 ≡ 0
step-high F divisor rest place f top k some e lead high h =
    let index : k ≡ place + (k - place) = omega arith in
    let term : get_or (raised_coefficients place (scaled_coefficients f divisor)) k 0 ≡ element_product f (get_or divisor (k - place) 0) =
    ap (λ (j : ℕ). get_or (raised_coefficients place (scaled_coefficients f divisor)) j 0) index
    ∙ coefficient-raised_coefficients place (scaled_coefficients f divisor) (k - place) ∙ coefficient-scaled_coefficients F f divisor (k - place) in
    coefficient-sum rest (raised_coefficients place (scaled_coefficients f divisor)) k
    ∙ elim (cases_eq k (top - 1)) [
      | inl here ↦
          let last : k - place ≡ length divisor - 1 = omega arith in
          ap₂ bit_xor (ap (λ (j : ℕ). get_or rest j 0) here)
          (term ∙ ap (λ (j : ℕ). element_product f (get_or divisor j 0)) last ∙ lead)
          ∙ xor_self (get_or rest (top - 1) 0)
      | inr above ↦
          let further : get_or (scaled_coefficients f divisor) (k - place) 0 ≡ 0 =
          get_or_past (scaled_coefficients f divisor) (k - place) 0 (omega (arith, length-scaled_coefficients f divisor)) in
          ap₂ bit_xor (high k (omega arith)) (term ∙ sym (coefficient-scaled_coefficients F f divisor (k - place)) ∙ further)
    ]

pub division_step :
    (F : IsField 391) (dividend divisor quotient rest : List ℕ) (place f top len : ℕ)
    → Divides dividend divisor quotient rest top len → 0 < length divisor → place + length divisor ≡ top → place < length quotient
    → element_product f (get_or divisor (length divisor - 1) 0) ≡ get_or rest (top - 1) 0
    → Divides dividend divisor (set quotient place f) (sum_of rest (raised_coefficients place (scaled_coefficients f divisor))) (top - 1) len
division_step F dividend divisor quotient rest place f top len d some e inside lead = let within : top ≤ len = d.within in record {
  whole = λ k. step-whole F divisor quotient rest place f k inside (d.unset place (omega arith)) ∙ d.whole k;
  high = λ k h. step-high F divisor rest place f top k some e lead d.high h;
  short = λ k h.
      get_or-set_other quotient place k f 0 (let apart : k ≢ place = omega arith in apart) ∙ d.short k h;
  unset = λ k h.
      get_or-set_other quotient place k f 0 (let apart : k ≢ place = omega arith in apart) ∙ d.unset k (omega arith);
  within = omega arith;
}

-- what is kept of the quotient and the rest is the division
pub kept-IsDivision :
    (F : IsField 391) (dividend divisor quotient rest : List ℕ) (len : ℕ) → 0 < length divisor
    → ((k : ℕ) → get_or (sum_of (list_product quotient divisor) rest) k 0 ≡ get_or dividend k 0)
    → ((k : ℕ) → length divisor - 1 ≤ k → get_or rest k 0 ≡ 0) → ((k : ℕ) → len ≤ k → get_or quotient k 0 ≡ 0)
    → IsDivision dividend divisor (trimmed_coefficients (take len quotient)) (trimmed_coefficients (take (length divisor - 1) rest))
kept-IsDivision F dividend divisor quotient rest len some whole lower short =
    let q : List ℕ = trimmed_coefficients (take len quotient) in
    let r : List ℕ = trimmed_coefficients (take (length divisor - 1) rest) in
    record {
      whole = trimmed_from_same (sum_of (list_product (trimmed_coefficients (take len quotient)) divisor) (trimmed_coefficients (take (length divisor - 1) rest))) dividend
          (λ k.
          coefficient-sum (list_product (trimmed_coefficients (take len quotient)) divisor) (trimmed_coefficients (take (length divisor - 1) rest)) k
          ∙ ap₂ bit_xor
          (same-product F (trimmed_coefficients (take len quotient)) quotient divisor (coefficient-front quotient len short) k)
          (coefficient-front rest (length divisor - 1) lower k)
          ∙ sym (coefficient-sum (list_product quotient divisor) rest k)
          ∙ whole k);
      lower = omega (arith, length-trimmed_coefficients (take (length divisor - 1) rest), length-take (length divisor - 1) rest);
    }

-- a list that has a coefficient is not empty
pub not_empty : (xs : List ℕ) → 0 < get_or xs (length xs - 1) 0 → 0 < length xs
not_empty [] h = absurd (omega arith)
not_empty (x ∷ xs) h = omega arith

-- a division of the same lists
pub same-IsDivision :
    (dividend dividend' divisor divisor' quotient quotient' rest rest' : List ℕ)
    → dividend ≡ dividend' → divisor ≡ divisor' → quotient ≡ quotient' → rest ≡ rest'
    → IsDivision dividend divisor quotient rest → IsDivision dividend' divisor' quotient' rest'
same-IsDivision dividend dividend' divisor divisor' quotient quotient' rest rest' e e' e'' e3 d =
    subst (λ (xs : List ℕ). IsDivision xs divisor' quotient' rest') e
    (subst (λ (xs : List ℕ). IsDivision dividend xs quotient' rest') e'
    (subst (λ (xs : List ℕ). IsDivision dividend divisor xs rest') e''
    (subst (λ (xs : List ℕ). IsDivision dividend divisor quotient xs) e3 d)))
