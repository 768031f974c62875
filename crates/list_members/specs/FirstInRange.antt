-- The first number of a range that passes a test, and what `find` gives there.
use Rattle.std.proofs.Common.{◌≡◌, ℕ, zero, suc, ◌+◌, ◌<◌, ◌≤◌, Bool, true, false, find, Some, None}
use Rattle.std.proofs.Common.{refl, sym, ◌∙◌, ap, inl, inr, arith}
use Rattle.std.specs.List.{range_with_len}
use Rattle.std.proofs.lemmas.Bool.{cases_Bool, cases_eq}
use Rattle.list_members.specs.Finding.{find-cons_true, find-cons_false}

-- the first number that passes
pub record IsFirst (p : ℕ → Bool) (from count r : ℕ) : Type 0 where
  pub low : from ≤ r
  pub high : r < from + count
  pub passes : p r ≡ true
  pub before : (lower : ℕ) → from ≤ lower → lower < r → p lower ≡ false

pub first_from :
    (p : ℕ → Bool) (from count r : ℕ) → find p (range_with_len from count) ≡ Some r
    → IsFirst p from count r
first_from p from zero r e = cc
first_from p from (suc count) r e = elim (cases_Bool (p from)) [
  | inl passed ↦
      let here = find-cons_true p from (range_with_len (from + 1) count) passed in
      let same : from ≡ r = cc in
      record {
        low = omega arith;
        high = omega arith;
        passes = ap p (sym same) ∙ passed;
        before = λ lower h h'. absurd (omega arith);
      }
  | inr failed ↦
      let later = find-cons_false p from (range_with_len (from + 1) count) failed in
      let is = first_from p (from + 1) count r (sym later ∙ e) in
      let low = is.low in
      let high = is.high in
      record {
        low = omega arith;
        high = omega arith;
        passes = is.passes;
        before = λ lower h h'. elim (cases_eq lower from) [
          | inl same ↦ ap p same ∙ failed
          | inr apart ↦ is.before lower (omega arith) h'
        ];
      }
]

pub first_to :
    (p : ℕ → Bool) (from count r : ℕ) → IsFirst p from count r
    → find p (range_with_len from count) ≡ Some r
first_to p from zero r is = let low = is.low in let high = is.high in absurd (omega arith)
first_to p from (suc count) r is =
    let low = is.low in
    let high = is.high in
    elim (cases_eq from r) [
      | inl same ↦
          find-cons_true p from (range_with_len (from + 1) count) (ap p same ∙ is.passes)
          ∙ ap Some same
      | inr apart ↦
          find-cons_false p from (range_with_len (from + 1) count)
          (is.before from (omega arith) (omega arith))
          ∙ first_to p (from + 1) count r (record {
            low = omega arith;
            high = omega arith;
            passes = is.passes;
            before = λ lower h h'. is.before lower (omega arith) h';
          })
    ]

pub passes_none :
    (p : ℕ → Bool) (from count : ℕ) → find p (range_with_len from count) ≡ None → (r : ℕ) → from ≤ r
    → r < from + count → p r ≡ false
passes_none p from zero e r h h' = absurd (omega arith)
passes_none p from (suc count) e r h h' = elim (cases_Bool (p from)) [
  | inl passed ↦ let here = find-cons_true p from (range_with_len (from + 1) count) passed in cc
  | inr failed ↦ elim (cases_eq r from) [
    | inl same ↦ ap p same ∙ failed
    | inr apart ↦
        let later = find-cons_false p from (range_with_len (from + 1) count) failed in
        passes_none p (from + 1) count (sym later ∙ e) r (omega arith) (omega arith)
  ]
]

pub found_none :
    (p : ℕ → Bool) (from count : ℕ) → ((r : ℕ) → from ≤ r → r < from + count → p r ≡ false)
    → find p (range_with_len from count) ≡ None
found_none p from zero all = refl
found_none p from (suc count) all =
    find-cons_false p from (range_with_len (from + 1) count) (all from (omega arith) (omega arith))
    ∙ found_none p (from + 1) count (λ r h h'. all r (omega arith) (omega arith))
