-- What a first byte adds to the number of places in which two words differ, and words that differ in no place.
use Rattle.std.proofs.Common.{◌≡◌, ℕ, zero, suc, ◌+◌, ◌<◌, ◌≤◌, ◌⊎◌, List, [], ◌∷◌, length, get_or, cond, Bool, refl, ◌∙◌, ap, ap₂, arith, inl, inr, eqb, eq-eqb}
use Rattle.std.proofs.lemmas.Bool.{cases_Bool, cases_eq, eqb-true}
use Rattle.rs_code.specs.CodeWord.{differences}

pub differences-cons_same :
    (x y : ℕ) (xs ys : List ℕ) → x ≡ y → differences (x ∷ xs) (y ∷ ys) ≡ differences xs ys
differences-cons_same x y xs ys e =
    ap (λ (z : Bool). cond z (differences xs ys) (suc (differences xs ys))) (eq-eqb x y e)

pub differences-cons_apart :
    (x y : ℕ) (xs ys : List ℕ) → (x ≡ y → ⊥) → differences (x ∷ xs) (y ∷ ys) ≡ suc (differences xs ys)
differences-cons_apart x y xs ys n = elim (cases_Bool (eqb x y)) [
  | inl same ↦ absurd (n (eqb-true x y same))
  | inr apart ↦ ap (λ (z : Bool). cond z (differences xs ys) (suc (differences xs ys))) apart
]

-- a first byte counts once at most
pub differences-cons_bounds :
    (x y : ℕ) (xs ys : List ℕ)
    → (differences xs ys ≤ differences (x ∷ xs) (y ∷ ys)) × (differences (x ∷ xs) (y ∷ ys) ≤ suc (differences xs ys))
differences-cons_bounds x y xs ys = elim (cases_eq x y) [
  | inl e ↦ let d = differences-cons_same x y xs ys e in (omega arith, omega arith)
  | inr n ↦ let d = differences-cons_apart x y xs ys n in (omega arith, omega arith)
]

pub differences-same : (xs : List ℕ) → differences xs xs ≡ 0
differences-same [] = refl
differences-same (x ∷ xs) = differences-cons_same x x xs xs refl ∙ differences-same xs

pub same_from_no_differences : (xs ys : List ℕ) → differences xs ys ≤ 0 → xs ≡ ys
same_from_no_differences [] [] h = refl
same_from_no_differences [] (y ∷ ys) h = absurd (omega arith)
same_from_no_differences (x ∷ xs) [] h = absurd (omega arith)
same_from_no_differences (x ∷ xs) (y ∷ ys) h = elim (cases_eq x y) [
  | inl e ↦
      let d = differences-cons_same x y xs ys e in
      ap₂ (λ (z : ℕ) (zs : List ℕ). z ∷ zs) e (same_from_no_differences xs ys (omega arith))
  | inr n ↦ let d = differences-cons_apart x y xs ys n in absurd (omega arith)
]

-- words that are the same outside some consecutive places differ in no more places than these
pub differences-window :
    (first many : ℕ) (xs ys : List ℕ) → length xs ≡ length ys
    → ((k : ℕ) → k < length xs → (k < first) ⊎ (first + many ≤ k) → get_or xs k 0 ≡ get_or ys k 0)
    → differences xs ys ≤ many
differences-window first many [] [] l same = omega arith
differences-window first many [] (y ∷ ys) l same = absurd (omega arith)
differences-window first many (x ∷ xs) [] l same = absurd (omega arith)
differences-window (suc first) many (x ∷ xs) (y ∷ ys) l same =
    let rest = differences-window first many xs ys (omega arith) (λ k h outside. same (suc k) (omega arith) (elim outside [
      | inl before ↦ inl (omega arith)
      | inr behind ↦ inr (omega arith)
    ])) in
    let head : x ≡ y = same 0 (omega arith) (inl (omega arith)) in
    let d = differences-cons_same x y xs ys head in
    omega arith
differences-window zero (suc many) (x ∷ xs) (y ∷ ys) l same =
    let rest = differences-window zero many xs ys (omega arith) (λ k h outside. same (suc k) (omega arith) (elim outside [
      | inl before ↦ inl (absurd (omega arith))
      | inr behind ↦ inr (omega arith)
    ])) in
    let most = (differences-cons_bounds x y xs ys).1 in
    omega arith
differences-window zero zero (x ∷ xs) (y ∷ ys) l same =
    let rest = differences-window zero zero xs ys (omega arith) (λ k h outside. same (suc k) (omega arith) (inr (omega arith))) in
    let head : x ≡ y = same 0 (omega arith) (inr (omega arith)) in
    let d = differences-cons_same x y xs ys head in
    omega arith
