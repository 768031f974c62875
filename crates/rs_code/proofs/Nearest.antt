-- Two words near a third are near each other.
use Rattle.std.proofs.Common.{ℕ, ◌+◌, ◌≤◌, List, [], ◌∷◌, length, sym, ◌∙◌, arith, inl, inr}
use Rattle.std.proofs.lemmas.Bool.{cases_eq, leb-true}
use Rattle.gf256_core.specs.Field.{IsField}
use Rattle.rs_code.specs.CodeWord.{differences, bound}
use Rattle.rs_code.specs.Laws.{HasOneNearest}
use Rattle.rs_code.proofs.Differences.{differences-cons_same, differences-cons_apart, differences-cons_bounds}
use Rattle.rs_code.proofs.Distance.{same_code_word}

length-differences : (xs ys : List ℕ) → length ys ≤ length xs + differences xs ys
length-differences [] [] = omega arith
length-differences [] (y ∷ ys) = omega arith
length-differences (x ∷ xs) [] = omega arith
length-differences (x ∷ xs) (y ∷ ys) =
    let rest = length-differences xs ys in
    let first = (differences-cons_bounds x y xs ys).0 in
    omega arith

differences-lengths : (xs ys : List ℕ) → differences xs ys ≤ length xs + length ys
differences-lengths [] [] = omega arith
differences-lengths [] (y ∷ ys) = omega arith
differences-lengths (x ∷ xs) [] = omega arith
differences-lengths (x ∷ xs) (y ∷ ys) =
    let rest = differences-lengths xs ys in
    let first = (differences-cons_bounds x y xs ys).1 in
    omega arith

pub differences-through : (ws xs ys : List ℕ) → differences xs ys ≤ differences ws xs + differences ws ys
differences-through [] [] ys = omega arith
differences-through [] (x ∷ xs) [] = omega arith
differences-through [] (x ∷ xs) (y ∷ ys) =
    let first = (differences-cons_bounds x y xs ys).1 in
    let rest = differences-lengths xs ys in
    omega arith
differences-through (w ∷ ws) [] [] = omega arith
differences-through (w ∷ ws) [] (y ∷ ys) =
    let first = (differences-cons_bounds w y ws ys).0 in
    let rest = length-differences ws ys in
    omega arith
differences-through (w ∷ ws) (x ∷ xs) [] =
    let first = (differences-cons_bounds w x ws xs).0 in
    let rest = length-differences ws xs in
    omega arith
differences-through (w ∷ ws) (x ∷ xs) (y ∷ ys) =
    let rest = differences-through ws xs ys in
    let second = (differences-cons_bounds w x ws xs).0 in
    let third = (differences-cons_bounds w y ws ys).0 in
    elim (cases_eq x y) [
      | inl e ↦ let d = differences-cons_same x y xs ys e in omega arith
      | inr n ↦
          let d = (differences-cons_bounds x y xs ys).1 in
          elim (cases_eq w x) [
            | inl e ↦
                let far = differences-cons_apart w y ws ys (λ f. n (sym e ∙ f)) in
                omega arith
            | inr m ↦ let far = differences-cons_apart w x ws xs m in omega arith
          ]
    ]

-- the bound is at most half of the roots
twice_the_bound : (roots : ℕ) → bound roots + bound roots ≤ roots
twice_the_bound roots = omega arith

pub one_nearest : (F : IsField 391) → HasOneNearest
one_nearest F count roots first word near other instance n n' =
    let far = differences-through word near other in
    let half = twice_the_bound roots in
    let close = leb-true (differences word near) (bound roots) n.near in
    let close' = leb-true (differences word other) (bound roots) n'.near in
    same_code_word F count roots first near other instance.short n.code n'.code (omega arith)
