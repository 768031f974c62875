-- Members of filters and of joined lists.
use Rattle.std.proofs.Common.{◌≡◌, Bool, true, ◌⊎◌, List, [], ◌∷◌, ◌++◌, filter, sym, ap, subst}
use Rattle.std.proofs.Common.{◌∙◌, inl, inr}
use Rattle.std.proofs.lemmas.Bool.{cases_Bool, cond-true, cond-false}
use Rattle.list_members.specs.Membership.{IsIn}

pub IsIn-filter : {X : Type 0} (p : X → Bool) (x : X) (xs : List X) → IsIn x xs → p x ≡ true
    → IsIn x (filter p xs)
IsIn-filter p x [] here passes = absurd here
IsIn-filter p x (y ∷ ys) (inl same) passes = rw (sym (ap p same) ∙ passes) (inl same)
IsIn-filter p x (y ∷ ys) (inr later) passes = elim (cases_Bool (p y)) [
  | inl t ↦ rw t (inr (IsIn-filter p x ys later passes))
  | inr f ↦ rw f (IsIn-filter p x ys later passes)
]

pub IsIn-from_filter : {X : Type 0} (p : X → Bool) (x : X) (xs : List X) → IsIn x (filter p xs)
    → IsIn x xs × (p x ≡ true)
IsIn-from_filter p x [] here = absurd here
IsIn-from_filter p x (y ∷ ys) here = elim (cases_Bool (p y)) [
  | inl t ↦ elim (subst (IsIn x) (cond-true (p y) (y ∷ filter p ys) (filter p ys) t) here) [
    | inl same ↦ (inl same, ap p same ∙ t)
    | inr later ↦ let rest = IsIn-from_filter p x ys later in (inr rest.0, rest.1)
  ]
  | inr f ↦
      let rest = IsIn-from_filter p x ys
      (subst (IsIn x) (cond-false (p y) (y ∷ filter p ys) (filter p ys) f) here) in
      (inr rest.0, rest.1)
]

pub IsIn-before : {X : Type 0} (x : X) (xs ys : List X) → IsIn x xs → IsIn x (xs ++ ys)
IsIn-before x [] ys here = absurd here
IsIn-before x (z ∷ xs) ys (inl same) = inl same
IsIn-before x (z ∷ xs) ys (inr later) = inr (IsIn-before x xs ys later)

pub IsIn-after : {X : Type 0} (x : X) (xs ys : List X) → IsIn x ys → IsIn x (xs ++ ys)
IsIn-after x [] ys here = here
IsIn-after x (z ∷ xs) ys here = inr (IsIn-after x xs ys here)

pub IsIn-either : {X : Type 0} (x : X) (xs ys : List X) → IsIn x (xs ++ ys) → IsIn x xs ⊎ IsIn x ys
IsIn-either x [] ys here = inr here
IsIn-either x (z ∷ xs) ys (inl same) = inl (inl same)
IsIn-either x (z ∷ xs) ys (inr later) = elim (IsIn-either x xs ys later) [
  | inl there ↦ inl (inr there)
  | inr there ↦ inr there
]
