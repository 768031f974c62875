-- A polynomial has no more roots than its degree: each root divides it, and the quotient has the other roots.
use Rattle.std.proofs.Common.{◌≡◌, ℕ, zero, suc, ◌<◌, ◌≤◌, List, [], ◌∷◌, length, get_or, refl, sym, ◌∙◌, ap, ap₂, arith, lit<, inl, inr}
use Rattle.std.specs.Int.Bits.{bit_xor, xor_zero_r}
use Rattle.std.proofs.lemmas.Nat.{xor_comm}
use Rattle.std.proofs.lemmas.Bool.{cases_lt}
use Rattle.gf256_core.specs.Field.{IsField}
use Rattle.poly256.specs.Polynomial.{element_product, trimmed_coefficients, value_at}
use Rattle.poly256.specs.Laws.{AreDifferent, HasFewRoots}
use Rattle.bit_fields.specs.Xors.{xor-same_left, xor-equal, xor-through}
use Rattle.poly256.proofs.Trims.{trimmed_coefficients-zeros}
use Rattle.poly256.proofs.Values.{value-empty, value-cons, value-fits}

-- the quotient by x + at
quotient_by_root : ℕ → List ℕ → List ℕ
quotient_by_root at [] = []
quotient_by_root at (c ∷ []) = []
quotient_by_root at (c ∷ d ∷ ds) = value_at (d ∷ ds) at ∷ quotient_by_root at (d ∷ ds)

length-quotient : (at c : ℕ) (cs : List ℕ) → length (quotient_by_root at (c ∷ cs)) ≡ length cs
unfolding quotient_by_root
length-quotient at c [] = refl
length-quotient at c (d ∷ ds) = ap suc (length-quotient at d ds)

divided-bytes : (F : IsField 391) (at : ℕ) (cs : List ℕ) (k : ℕ) → get_or (quotient_by_root at cs) k 0 < 256
unfolding quotient_by_root
divided-bytes F at [] k = lit< tt
divided-bytes F at (c ∷ []) k = lit< tt
divided-bytes F at (c ∷ d ∷ ds) zero = value-fits F (d ∷ ds) at
divided-bytes F at (c ∷ d ∷ ds) (suc k) = divided-bytes F at (d ∷ ds) k

-- b v + a u = (b + a) u + b (v + u)
regrouped :
    (F : IsField 391) (a b u v : ℕ)
    → bit_xor (element_product b v) (element_product a u)
    ≡ bit_xor (element_product (bit_xor b a) u) (element_product b (bit_xor v u))
regrouped F a b u v =
    sym (xor-through (element_product b v) (element_product b u) (element_product a u))
    ∙ xor_comm (bit_xor (element_product b v) (element_product b u)) (bit_xor (element_product b u) (element_product a u))
    ∙ sym (ap₂ bit_xor (F.distributive b a u) (F.distributive_right b v u))

-- the difference of two values is a multiple of the difference of the elements
divided-value :
    (F : IsField 391) (at other : ℕ) (cs : List ℕ) → ((k : ℕ) → get_or cs k 0 < 256)
    → bit_xor (value_at cs other) (value_at cs at) ≡ element_product (bit_xor other at) (value_at (quotient_by_root at cs) other)
unfolding quotient_by_root
divided-value F at other [] bytes =
    ap₂ bit_xor (value-empty other) (value-empty at)
    ∙ sym (ap (element_product (bit_xor other at)) (value-empty other) ∙ F.product_zero_right (bit_xor other at))
divided-value F at other (c ∷ []) bytes =
    ap₂ bit_xor (value-cons F c [] other (bytes 0)) (value-cons F c [] at (bytes 0))
    ∙ xor-same_left (element_product other (value_at [] other)) (element_product at (value_at [] at)) c
    ∙ ap₂ bit_xor (ap (element_product other) (value-empty other) ∙ F.product_zero_right other)
    (ap (element_product at) (value-empty at) ∙ F.product_zero_right at)
    ∙ sym (ap (element_product (bit_xor other at)) (value-empty other) ∙ F.product_zero_right (bit_xor other at))
divided-value F at other (c ∷ d ∷ ds) bytes =
    let s : ℕ = bit_xor other at in
    ap₂ bit_xor (value-cons F c (d ∷ ds) other (bytes 0)) (value-cons F c (d ∷ ds) at (bytes 0))
    ∙ xor-same_left (element_product other (value_at (d ∷ ds) other)) (element_product at (value_at (d ∷ ds) at)) c
    ∙ regrouped F at other (value_at (d ∷ ds) at) (value_at (d ∷ ds) other)
    ∙ ap (bit_xor (element_product (bit_xor other at) (value_at (d ∷ ds) at)))
    (ap (element_product other) (divided-value F at other (d ∷ ds) (λ k. bytes (suc k)))
    ∙ F.product_turned other (bit_xor other at) (value_at (quotient_by_root at (d ∷ ds)) other))
    ∙ sym (F.distributive_right (bit_xor other at) (value_at (d ∷ ds) at) (element_product other (value_at (quotient_by_root at (d ∷ ds)) other)))
    ∙ ap (element_product (bit_xor other at)) (sym (value-cons F (value_at (d ∷ ds) at) (quotient_by_root at (d ∷ ds)) other (value-fits F (d ∷ ds) at)))

first_zero :
    (F : IsField 391) (c : ℕ) (cs : List ℕ) (at : ℕ) → c < 256 → value_at (c ∷ cs) at ≡ 0 → value_at cs at ≡ 0 → c ≡ 0
first_zero F c cs at h e e' =
    sym (xor_zero_r c) ∙ ap (bit_xor c) (sym (ap (element_product at) e' ∙ F.product_zero_right at))
    ∙ sym (value-cons F c cs at h) ∙ e

-- where the quotient and the value are zero, all is
zero_from_quotient :
    (F : IsField 391) (at : ℕ) (cs : List ℕ) → ((k : ℕ) → get_or cs k 0 < 256) → value_at cs at ≡ 0
    → ((k : ℕ) → get_or (quotient_by_root at cs) k 0 ≡ 0) → (k : ℕ) → get_or cs k 0 ≡ 0
unfolding quotient_by_root
zero_from_quotient F at [] bytes e none k = refl
zero_from_quotient F at (c ∷ []) bytes e none zero = first_zero F c [] at (bytes 0) e (value-empty at)
zero_from_quotient F at (c ∷ []) bytes e none (suc k) = refl
zero_from_quotient F at (c ∷ d ∷ ds) bytes e none zero = first_zero F c (d ∷ ds) at (bytes 0) e (none 0)
zero_from_quotient F at (c ∷ d ∷ ds) bytes e none (suc k) =
    zero_from_quotient F at (d ∷ ds) (λ j. bytes (suc j)) (none 0) (λ j. none (suc j)) k

-- another root is a root of the quotient
other_root :
    (F : IsField 391) (at other : ℕ) (cs : List ℕ) → ((k : ℕ) → get_or cs k 0 < 256) → at < 256 → other < 256
    → (other ≡ at → ⊥) → value_at cs at ≡ 0 → value_at cs other ≡ 0 → value_at (quotient_by_root at cs) other ≡ 0
other_root F at other cs bytes ha ho apart e e' =
    elim (F.zero_factor (bit_xor other at) (value_at (quotient_by_root at cs) other) (F.sum_fits other at ho ha) (value-fits F (quotient_by_root at cs) other)
    (sym (divided-value F at other cs bytes) ∙ ap₂ bit_xor e' e)) [
      | inl same ↦ absurd (apart (xor-equal other at same))
      | inr root ↦ root
    ]

rest-AreDifferent : (p : ℕ) (ps : List ℕ) → AreDifferent (p ∷ ps) → AreDifferent ps
rest-AreDifferent p ps d = record {
  bytes = λ i h. d.bytes (suc i) (omega arith);
  apart = λ i j h h'. d.apart (suc i) (suc j) (omega arith) (omega arith);
}

-- a list that is no longer than the points at which it is 0 is zero
zero_from_roots :
    (F : IsField 391) (points cs : List ℕ) → ((k : ℕ) → get_or cs k 0 < 256) → length cs ≤ length points
    → AreDifferent points → ((i : ℕ) → i < length points → value_at cs (get_or points i 0) ≡ 0) → (k : ℕ) → get_or cs k 0 ≡ 0
zero_from_roots F [] [] bytes h d roots k = refl
zero_from_roots F [] (c ∷ cs) bytes h d roots k = absurd (omega arith)
zero_from_roots F (p ∷ ps) [] bytes h d roots k = refl
zero_from_roots F (p ∷ ps) (c ∷ cs) bytes h d roots k =
    let root : value_at (c ∷ cs) p ≡ 0 = roots 0 (omega arith) in
    zero_from_quotient F p (c ∷ cs) bytes root
    (zero_from_roots F ps (quotient_by_root p (c ∷ cs)) (divided-bytes F p (c ∷ cs)) (let l = length-quotient p c cs in omega arith)
    (rest-AreDifferent p ps d)
    (λ i h'. other_root F p (get_or ps i 0) (c ∷ cs) bytes (d.bytes 0 (omega arith)) (d.bytes (suc i) (omega arith))
    (λ e. d.apart 0 (suc i) (omega arith) (omega arith) (sym e)) root (roots (suc i) (omega arith))))
    k

pub few_roots : (F : IsField 391) → HasFewRoots
few_roots F cs points bytes t some d roots = elim (cases_lt (length points) (length cs)) [
  | inl few ↦ few
  | inr many ↦
      let zero : trimmed_coefficients cs ≡ [] = trimmed_coefficients-zeros cs (zero_from_roots F points cs bytes many d roots) in
      let none : length cs ≡ 0 = ap length (sym t ∙ zero) in
      absurd (omega arith)
]
