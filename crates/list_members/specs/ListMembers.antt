-- What stands in lists that are made of other lists.
use Rattle.std.proofs.Common.{◌≡◌, ℕ, zero, suc, Bool, true, ◌⊎◌, List, [], ◌∷◌, ◌++◌, map}
use Rattle.std.proofs.Common.{flat_map, filter, filter_map, length, not, ◌≤◌, Option, Some, None}
use Rattle.std.proofs.Common.{slice_get, refl, sym, ap, subst, ◌∙◌, inl, inr, arith}
use Rattle.std.specs.List.{All, list_any, cons_option, sum_by}
use Rattle.std.proofs.lemmas.List.Elements.{All-nil, All-cons}
use Rattle.std.proofs.lemmas.Bool.{or_left, or_right, or_cases}
use Rattle.std.proofs.lemmas.List.Filters.{length-filter_both}
use Rattle.std.proofs.lemmas.List.Sums.{sum_by-cons}
use Rattle.list_members.specs.Membership.{IsIn}
use Rattle.list_members.specs.Members.{IsIn-before, IsIn-after, IsIn-either}

pub in_one : {A : Type 0} (x y : A) → IsIn x (y ∷ []) → x ≡ y
in_one x y (inl e) = e
in_one x y (inr h) = absurd h

pub in_flat_map : {A B : Type 0} (f : A → List B) (y : B) (xs : List A) → IsIn y (flat_map f xs)
    → (x : A) × IsIn x xs × IsIn y (f x)
in_flat_map f y [] h = absurd h
in_flat_map f y (x ∷ xs) h = elim (IsIn-either y (f x) (flat_map f xs) h) [
  | inl a ↦ (x, inl refl, a)
  | inr b ↦ let more = in_flat_map f y xs b in (more.0, inr more.1, more.2)
]

pub flat_map_has : {A B : Type 0} (f : A → List B) (x : A) (y : B) (xs : List A) → IsIn x xs
    → IsIn y (f x) → IsIn y (flat_map f xs)
flat_map_has f x y [] h k = absurd h
flat_map_has f x y (z ∷ xs) (inl e) k =
    IsIn-before y (f z) (flat_map f xs) (subst (λ w. IsIn y (f w)) e k)
flat_map_has f x y (z ∷ xs) (inr h) k =
    IsIn-after y (f z) (flat_map f xs) (flat_map_has f x y xs h k)

pub in_map : {A B : Type 0} (f : A → B) (y : B) (xs : List A) → IsIn y (map f xs)
    → (x : A) × IsIn x xs × (y ≡ f x)
in_map f y [] h = absurd h
in_map f y (x ∷ xs) (inl e) = (x, inl refl, e)
in_map f y (x ∷ xs) (inr h) = let more = in_map f y xs h in (more.0, inr more.1, more.2)

pub map_has : {A B : Type 0} (f : A → B) (x : A) (xs : List A) → IsIn x xs → IsIn (f x) (map f xs)
map_has f x [] h = absurd h
map_has f x (y ∷ xs) (inl e) = inl (ap f e)
map_has f x (y ∷ xs) (inr h) = inr (map_has f x xs h)

in_cons_option : {B : Type 0} (y : B) (o : Option B) (ys : List B) → IsIn y (cons_option o ys)
    → (o ≡ Some y) ⊎ IsIn y ys
in_cons_option y None ys h = inr h
in_cons_option y (Some z) ys (inl e) = inl (ap Some (sym e))
in_cons_option y (Some z) ys (inr h) = inr h

cons_option_has : {B : Type 0} (y : B) (o : Option B) (ys : List B) → IsIn y ys
    → IsIn y (cons_option o ys)
cons_option_has y None ys h = h
cons_option_has y (Some z) ys h = inr h

pub in_filter_map : {A B : Type 0} (g : A → Option B) (y : B) (xs : List A)
    → IsIn y (filter_map g xs) → (x : A) × IsIn x xs × (g x ≡ Some y)
in_filter_map g y [] h = absurd h
in_filter_map g y (x ∷ xs) h = elim (in_cons_option y (g x) (filter_map g xs) h) [
  | inl e ↦ (x, inl refl, e)
  | inr r ↦ let more = in_filter_map g y xs r in (more.0, inr more.1, more.2)
]

pub filter_map_has : {A B : Type 0} (g : A → Option B) (x : A) (y : B) (xs : List A) → IsIn x xs
    → g x ≡ Some y → IsIn y (filter_map g xs)
filter_map_has g x y [] h is = absurd h
filter_map_has g x y (z ∷ xs) (inl e) is =
    subst (λ o. IsIn y (cons_option o (filter_map g xs))) (sym is ∙ ap g e) (inl refl)
filter_map_has g x y (z ∷ xs) (inr h) is =
    cons_option_has y (g z) (filter_map g xs) (filter_map_has g x y xs h is)

pub any_in : {A : Type 0} (p : A → Bool) (xs : List A) → list_any p xs ≡ true
    → (x : A) × IsIn x xs × (p x ≡ true)
any_in p [] h = absurd (cc)
any_in p (x ∷ xs) h = elim (or_cases (p x) (list_any p xs) h) [
  | inl t ↦ (x, inl refl, t)
  | inr r ↦ let more = any_in p xs r in (more.0, inr more.1, more.2)
]

pub in_any : {A : Type 0} (p : A → Bool) (x : A) (xs : List A) → IsIn x xs → p x ≡ true
    → list_any p xs ≡ true
in_any p x [] h t = absurd h
in_any p x (y ∷ xs) (inl e) t = or_left (p y) (list_any p xs) (sym (ap p e) ∙ t)
in_any p x (y ∷ xs) (inr h) t = or_right (p y) (list_any p xs) (in_any p x xs h t)

pub got_in : {A : Type 0} (x : A) (xs : List A) (i : ℕ) → slice_get xs i ≡ Some x → IsIn x xs
got_in x [] i e = absurd (cc)
got_in x (y ∷ xs) zero e = inl (let same : Some y ≡ Some x = e in sym (cc))
got_in x (y ∷ xs) (suc i) e = inr (got_in x xs i e)

-- what holds of each member holds of all, by index
pub All-members : {A : Type 0} (P : A → Type 0) (xs : List A) → ((x : A) → IsIn x xs → P x)
    → All P xs
All-members P [] each = All-nil P
All-members P (x ∷ xs) each =
    All-cons P x xs (each x (inl refl)) (All-members P xs (λ y h. each y (inr h)))

pub length_ones : {A : Type 0} (xs : List A) → length xs ≡ sum_by (λ x. 1) xs
length_ones [] = refl
length_ones (x ∷ xs) = let more = length_ones xs in omega (arith, more, sum_by-cons (λ y. 1) x xs)

pub filter_shorter : {A : Type 0} (p : A → Bool) (xs : List A) → length (filter p xs) ≤ length xs
filter_shorter p xs =
    let both = length-filter_both p (λ x. not (p x)) (λ x. refl) xs in omega (arith, both)

pub heads : {A : Type 0} (x y : A) (xs ys : List A) → x ∷ xs ≡ y ∷ ys → (x ≡ y) × (xs ≡ ys)
heads x y xs ys e = (cc, cc)

pub slice_get_after : {A : Type 0} (xs ys : List A) (x : A)
    → slice_get (xs ++ x ∷ ys) (length xs) ≡ Some x
slice_get_after [] ys x = refl
slice_get_after (a ∷ xs) ys x = slice_get_after xs ys x
