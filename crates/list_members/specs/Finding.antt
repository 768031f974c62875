-- What `find` gives.
use Rattle.std.proofs.Common.{◌≡◌, Bool, true, false, List, [], ◌∷◌, find, Some, None, refl, sym}
use Rattle.std.proofs.Common.{ap, ◌∙◌, inl, inr}
use Rattle.std.proofs.lemmas.Bool.{cases_Bool, cond-true, cond-false, both_ways}
use Rattle.list_members.specs.Membership.{IsIn}

pub find-cons_true : {X : Type 0} (p : X → Bool) (x : X) (xs : List X) → p x ≡ true
    → find p (x ∷ xs) ≡ Some x
find-cons_true p x xs e = cond-true (p x) (Some x) (find p xs) e

pub find-cons_false : {X : Type 0} (p : X → Bool) (x : X) (xs : List X) → p x ≡ false
    → find p (x ∷ xs) ≡ find p xs
find-cons_false p x xs e = cond-false (p x) (Some x) (find p xs) e

-- what is found passes
pub find-passes : {X : Type 0} (p : X → Bool) (xs : List X) (y : X) → find p xs ≡ Some y
    → p y ≡ true
find-passes p [] y e = cc
find-passes p (x ∷ xs) y e = elim (cases_Bool (p x)) [
  | inl passed ↦
      let f : find p (x ∷ xs) ≡ Some x = find-cons_true p x xs passed in let same : x ≡ y = cc in
      ap p (sym same) ∙ passed
  | inr failed ↦ find-passes p xs y (sym (find-cons_false p x xs failed) ∙ e)
]

-- where nothing passes nothing is found
pub find-none : {X : Type 0} (p : X → Bool) (xs : List X) → ((x : X) → p x ≡ true → ⊥)
    → find p xs ≡ None
find-none p [] h = refl
find-none p (x ∷ xs) h = elim (cases_Bool (p x)) [
  | inl passed ↦ absurd (h x passed)
  | inr failed ↦ find-cons_false p x xs failed ∙ find-none p xs h
]

-- the only one that passes is found
pub find-only :
    {X : Type 0} (p : X → Bool) (xs : List X) (y : X) → IsIn y xs → p y ≡ true
    → ((x : X) → p x ≡ true → x ≡ y)
    → find p xs ≡ Some y
find-only p [] y here passed only = absurd here
find-only p (x ∷ xs) y here passed only = elim (cases_Bool (p x)) [
  | inl first ↦ find-cons_true p x xs first ∙ ap Some (only x first)
  | inr failed ↦ elim here [
    | inl same ↦ absurd (both_ways (p x) failed (ap p (sym same) ∙ passed))
    | inr behind ↦ find-cons_false p x xs failed ∙ find-only p xs y behind passed only
  ]
]
