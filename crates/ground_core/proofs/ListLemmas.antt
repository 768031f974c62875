-- What filters keep, and where the elements of joined lists stand.
use Rattle.std.proofs.Common.{◌≡◌, Bool, true, ◌&&◌, ◌||◌, cond, List, [], ◌∷◌, map, filter, refl, sym, ap, ◌∙◌, inl, inr}
use Rattle.std.specs.List.{AllByRecursion, list_any}
use Rattle.std.proofs.lemmas.List.Elements.{All-from_recursion, recursion_from_All, All-filter, All-map, filter_agree}
use Rattle.list_members.specs.Membership.{IsIn}
use Rattle.list_members.specs.ListMembers.{All-members}
use Rattle.std.proofs.lemmas.Bool.{cases_Bool, or_right}
use Rattle.std.proofs.Math.Bool.{and_comm}

pub AllByRecursion-filter : {X : Type 0} (P : X → Type 0) (p : X → Bool) (xs : List X) → AllByRecursion P xs → AllByRecursion P (filter p xs)
AllByRecursion-filter P p xs h = recursion_from_All P (filter p xs) (All-filter p P xs (All-from_recursion P xs h))

-- one filter behind another
pub filter_both : {X : Type 0} (p q : X → Bool) (xs : List X) → filter (λ x. p x && q x) xs ≡ filter q (filter p xs)
filter_both p q [] = refl
filter_both p q (x ∷ xs) = elim (cases_Bool (p x)) [
  | inl t ↦ rw t (ap (λ l. cond (q x) (x ∷ l) l) (filter_both p q xs))
  | inr f ↦ rw f (filter_both p q xs)
]

pub filter_swap : {X : Type 0} (p q : X → Bool) (xs : List X) → filter p (filter q xs) ≡ filter q (filter p xs)
filter_swap p q xs = sym (filter_both q p xs) ∙ filter_agree (λ x. q x && p x) (λ x. p x && q x) (λ x. and_comm (q x) (p x)) xs ∙ filter_both p q xs

pub filter-map : {X Y : Type 0} (p : Y → Bool) (f : X → Y) (xs : List X) → filter p (map f xs) ≡ map f (filter (λ x. p (f x)) xs)
filter-map p f [] = refl
filter-map p f (x ∷ xs) = elim (cases_Bool (p (f x))) [
  | inl t ↦ rw t (ap (λ l. f x ∷ l) (filter-map p f xs))
  | inr e ↦ rw e (filter-map p f xs)
]

pub AllByRecursion-in : {X : Type 0} (P : X → Type 0) (xs : List X) → ((x : X) → IsIn x xs → P x) → AllByRecursion P xs
AllByRecursion-in P xs f = recursion_from_All P xs (All-members P xs f)

pub AllByRecursion-map : {X Y : Type 0} (P : Y → Type 0) (f : X → Y) (xs : List X) → AllByRecursion (λ x. P (f x)) xs → AllByRecursion P (map f xs)
AllByRecursion-map P f xs h = recursion_from_All P (map f xs) (All-map P f xs (All-from_recursion (λ x. P (f x)) xs h))

pub list_any-map : {X Y : Type 0} (p : Y → Bool) (f : X → Y) (xs : List X) → list_any p (map f xs) ≡ list_any (λ x. p (f x)) xs
list_any-map p f [] = refl
list_any-map p f (x ∷ xs) = ap (λ b. p (f x) || b) (list_any-map p f xs)

pub list_any-weaker : {X : Type 0} (p q : X → Bool) → ((x : X) → p x ≡ true → q x ≡ true) → (xs : List X) → list_any p xs ≡ true → list_any q xs ≡ true
list_any-weaker p q f [] h = h
list_any-weaker p q f (x ∷ xs) h = elim (cases_Bool (p x)) [
  | inl t ↦ rw (f x t) refl
  | inr g ↦ (let rest : list_any q xs ≡ true = list_any-weaker p q f xs (ap (λ b. b || list_any p xs) (sym g) ∙ h) in or_right (q x) (list_any q xs) rest)
]
