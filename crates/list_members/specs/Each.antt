-- What holds at each element of a list, and the filters that it decides.
use Rattle.std.proofs.Common.{◌≡◌, Bool, true, false, cond, List, [], ◌∷◌, ◌++◌, filter}
use Rattle.std.proofs.Common.{refl, sym, ap, subst, inl, inr}
use Rattle.std.specs.List.{AllByRecursion}
use Rattle.std.proofs.lemmas.List.Elements.{All-from_recursion, recursion_from_All, All-weaker}
use Rattle.std.proofs.lemmas.Bool.{cases_Bool}
use Rattle.list_members.specs.Membership.{IsIn}
use Rattle.list_members.specs.ListMembers.{All-members}

-- what holds of each element, whether it stands in the list or not
pub AllByRecursion-all :
    {X : Type 0} (P : X → Type 0) → ((x : X) → P x) → (xs : List X) → AllByRecursion P xs
AllByRecursion-all P f xs = recursion_from_All P xs (All-members P xs (λ x h. f x))

pub AllByRecursion-weaker :
    {X : Type 0} (P Q : X → Type 0) → ((x : X) → P x → Q x) → (xs : List X)
    → AllByRecursion P xs → AllByRecursion Q xs
AllByRecursion-weaker P Q f xs h =
    recursion_from_All Q xs (All-weaker P Q f xs (All-from_recursion P xs h))

-- of two lists, joined
pub AllByRecursion-append :
    {X : Type 0} (P : X → Type 0) (xs ys : List X)
    → AllByRecursion P xs → AllByRecursion P ys → AllByRecursion P (xs ++ ys)
AllByRecursion-append P [] ys h k = k
AllByRecursion-append P (x ∷ xs) ys h k = (h.0, AllByRecursion-append P xs ys h.1 k)

pub AllByRecursion-front :
    {X : Type 0} (P : X → Type 0) (xs ys : List X)
    → AllByRecursion P (xs ++ ys) → AllByRecursion P xs
AllByRecursion-front P [] ys h = tt
AllByRecursion-front P (x ∷ xs) ys h = (h.0, AllByRecursion-front P xs ys h.1)

pub AllByRecursion-back :
    {X : Type 0} (P : X → Type 0) (xs ys : List X)
    → AllByRecursion P (xs ++ ys) → AllByRecursion P ys
AllByRecursion-back P [] ys h = h
AllByRecursion-back P (x ∷ xs) ys h = AllByRecursion-back P xs ys h.1

pub AllByRecursion-at :
    {X : Type 0} (P : X → Type 0) (xs : List X) (x : X) → AllByRecursion P xs → IsIn x xs → P x
AllByRecursion-at P [] x h i = absurd i
AllByRecursion-at P (y ∷ ys) x h i = elim i [
  | inl e ↦ subst P (sym e) h.0
  | inr k ↦ AllByRecursion-at P ys x h.1 k
]

-- a test that each passes keeps all, one that none passes keeps none
pub filter_all :
    {X : Type 0} (p : X → Bool) (xs : List X) → AllByRecursion (λ x. p x ≡ true) xs
    → filter p xs ≡ xs
filter_all p [] h = refl
filter_all p (x ∷ xs) h = rw h.0 (ap (λ l. x ∷ l) (filter_all p xs h.1))

pub filter_none :
    {X : Type 0} (p : X → Bool) (xs : List X) → AllByRecursion (λ x. p x ≡ false) xs
    → filter p xs ≡ []
filter_none p [] h = refl
filter_none p (x ∷ xs) h = rw h.0 (filter_none p xs h.1)

-- tests that agree at each element keep the same
pub filter_same :
    {X : Type 0} (p q : X → Bool) (xs : List X) → AllByRecursion (λ x. p x ≡ q x) xs
    → filter p xs ≡ filter q xs
filter_same p q [] h = refl
filter_same p q (x ∷ xs) h =
    rw h.0 (ap (λ l. cond (q x) (x ∷ l) l) (filter_same p q xs h.1))

-- a filter that passes less, behind one that passes more
pub filter_less :
    {X : Type 0} (p q : X → Bool) (xs : List X) → AllByRecursion (λ x. q x ≡ true → p x ≡ true) xs
    → filter q (filter p xs) ≡ filter q xs
filter_less p q [] h = refl
filter_less p q (x ∷ xs) h = elim (cases_Bool (p x)) [
  | inl t ↦ rw t (ap (λ l. cond (q x) (x ∷ l) l) (filter_less p q xs h.1))
  | inr f ↦ elim (cases_Bool (q x)) [
    | inl u ↦ absurd (cc (h.0 u))
    | inr g ↦ rw (f, g) (filter_less p q xs h.1)
  ]
]
