-- An even number of times an element is 0, and an odd number of times it is the element.
use Rattle.std.proofs.Common.{◌≡◌, ℕ, zero, suc, ◌+◌, ◌-◌, ◌%◌, ◌<◌, ◌≤◌, List, [], ◌∷◌, length, get_or, set, refl, sym, ◌∙◌, ap, ap₂, arith, inl, inr, get_or-set_same, get_or-set_other, ◌≢◌}
use Rattle.std.proofs.lemmas.List.{get_or_past}
use Rattle.std.proofs.lemmas.Bool.{cases_lt, cases_eq}
use Rattle.std.specs.Int.Bits.{bit_xor, xor_zero_r, xor_self}
use Rattle.poly256.specs.Polynomial.{added_copies, derivative_from, derivative_of}

added_copies-zero : (n : ℕ) → added_copies n 0 ≡ 0
unfolding added_copies
added_copies-zero zero = refl
added_copies-zero (suc n) = added_copies-zero n

-- an even number of times is 0, an odd number of times is once
record Parity (n c : ℕ) : Type 0 where
  even : n % 2 ≡ 0 → added_copies n c ≡ 0
  odd : n % 2 ≡ 1 → added_copies n c ≡ c

added_copies-Parity : (n c : ℕ) → Parity n c
unfolding added_copies
added_copies-Parity zero c = record { even = λ e. refl; odd = λ e. absurd (omega arith) }
added_copies-Parity (suc n) c = let p = added_copies-Parity n c in record {
  even = λ e. ap (bit_xor c) (p.odd (omega arith)) ∙ xor_self c;
  odd = λ e. ap (bit_xor c) (p.even (omega arith)) ∙ xor_zero_r c;
}

coefficient-derivative_from : (n : ℕ) (cs : List ℕ) (k : ℕ) → get_or (derivative_from n cs) k 0 ≡ added_copies (n + k) (get_or cs k 0)
unfolding derivative_from
coefficient-derivative_from n [] k = sym (added_copies-zero (n + k))
coefficient-derivative_from n (c ∷ cs) zero = ap (λ (m : ℕ). added_copies m c) (let e : n ≡ n + 0 = omega arith in e)
coefficient-derivative_from n (c ∷ cs) (suc k) =
    coefficient-derivative_from (suc n) cs k ∙ ap (λ (m : ℕ). added_copies m (get_or cs k 0)) (let e : suc n + k ≡ n + suc k = omega arith in e)

coefficient-derivative : (cs : List ℕ) (k : ℕ) → get_or (derivative_of cs) k 0 ≡ added_copies (suc k) (get_or cs (suc k) 0)
unfolding derivative_of
coefficient-derivative [] k = sym (added_copies-zero (suc k))
coefficient-derivative (c ∷ cs) k =
    coefficient-derivative_from 1 cs k ∙ ap (λ (m : ℕ). added_copies m (get_or cs k 0)) (let e : 1 + k ≡ suc k = omega arith in e)

pub derivative-past : (cs : List ℕ) (k : ℕ) → length cs ≤ suc k → get_or (derivative_of cs) k 0 ≡ 0
derivative-past cs k h =
    coefficient-derivative cs k ∙ ap (added_copies (suc k)) (get_or_past cs (suc k) 0 h) ∙ added_copies-zero (suc k)

-- the derivative is written below x^(power - 1)
pub record Differentiates (room list : List ℕ) (power : ℕ) : Type 0 where
  pub done : (k : ℕ) → suc k < power → get_or room k 0 ≡ get_or (derivative_of list) k 0
  pub left : (k : ℕ) → power ≤ suc k → get_or room k 0 ≡ 0
  pub odd : power % 2 ≡ 1

pub derivative_init : (room list : List ℕ) → ((k : ℕ) → get_or room k 0 ≡ 0) → Differentiates room list 1
derivative_init room list zeros = record { done = λ k h. absurd (omega arith); left = λ k h. zeros k; odd = refl }

pub derivative_step :
    (room list : List ℕ) (power : ℕ) → Differentiates room list power → power < length list → length list ≤ length room
    → Differentiates (set room (power - 1) (get_or list power 0)) list (power + 2)
derivative_step room list power d h fits = let odd : power % 2 ≡ 1 = d.odd in record {
  done = λ k below. elim (cases_eq k (power - 1)) [
    | inl here ↦
        let inside : power - 1 < length room = omega arith in
        let same : suc k ≡ power = omega arith in
        rw here (get_or-set_same room (power - 1) (get_or list power 0) 0 inside)
        ∙ sym (coefficient-derivative list k ∙ ap₂ added_copies same (ap (λ (m : ℕ). get_or list m 0) same)
        ∙ (added_copies-Parity power (get_or list power 0)).odd odd)
    | inr other ↦
        let apart : k ≢ power - 1 = other in
        get_or-set_other room (power - 1) k (get_or list power 0) 0 apart
        ∙ elim (cases_lt (suc k) power) [
          | inl before ↦ d.done k before
          | inr after ↦
              d.left k after
              ∙ sym (coefficient-derivative list k ∙ (added_copies-Parity (suc k) (get_or list (suc k) 0)).even (omega arith))
        ]
  ];
  left = λ k past.
      get_or-set_other room (power - 1) k (get_or list power 0) 0 (let apart : k ≢ power - 1 = omega arith in apart)
      ∙ d.left k (omega arith);
  odd = omega arith;
}

pub derivative_end :
    (room list : List ℕ) (power : ℕ) → Differentiates room list power → length list ≤ power
    → (k : ℕ) → get_or room k 0 ≡ get_or (derivative_of list) k 0
derivative_end room list power d h k = elim (cases_lt (suc k) power) [
  | inl before ↦ d.done k before
  | inr after ↦ d.left k after ∙ sym (derivative-past list k (omega arith))
]
