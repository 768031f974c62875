-- Weights of the elements of a list, and tests of them.
use Rattle.std.proofs.Common.{◌≡◌, ℕ, ◌+◌, ◌*◌, ◌≤◌, Bool, true, false, cond, not, ◌==◌, List, [], ◌∷◌, ◌++◌, length, filter, flat_map, refl, ap, ◌∙◌, inl, inr, arith}
use Rattle.std.specs.List.{list_all, sum_by}
use Rattle.std.proofs.lemmas.Bool.{cases_Bool, and_parts, and_from, cond-true, cond-false, eqb-true}
use Rattle.std.proofs.lemmas.List.{length-append}
use Rattle.std.proofs.lemmas.List.Elements.{filter-append}
use Rattle.std.proofs.lemmas.List.Sums.{sum_by-cons}

pub sum_of_two : {A : Type 0} (u v w : A → ℕ) (xs : List A) → ((x : A) → u x + v x ≤ w x)
    → sum_by u xs + sum_by v xs ≤ sum_by w xs
sum_of_two u v w [] each = omega arith
sum_of_two u v w (x ∷ xs) each =
    let here = each x in
    let more = sum_of_two u v w xs each in
    omega (arith, here, more, sum_by-cons u x xs, sum_by-cons v x xs, sum_by-cons w x xs)

pub sum_below_two : {A : Type 0} (w u v : A → ℕ) (xs : List A) → ((x : A) → w x ≤ u x + v x)
    → sum_by w xs ≤ sum_by u xs + sum_by v xs
sum_below_two w u v [] each = omega arith
sum_below_two w u v (x ∷ xs) each =
    let here = each x in
    let more = sum_below_two w u v xs each in
    omega (arith, here, more, sum_by-cons u x xs, sum_by-cons v x xs, sum_by-cons w x xs)

pub sum_none : {A : Type 0} (w : A → ℕ) (xs : List A) → ((x : A) → w x ≡ 0) → sum_by w xs ≡ 0
sum_none w [] each = refl
sum_none w (x ∷ xs) each =
    let here = each x in
    let more = sum_none w xs each in
    omega (arith, here, more, sum_by-cons w x xs)

-- the weight of those that pass a test
pub sum_of_filter : {A : Type 0} (w : A → ℕ) (p : A → Bool) (xs : List A)
    → sum_by w (filter p xs) ≡ sum_by (λ x. cond (p x) (w x) 0) xs
sum_of_filter w p [] = refl
sum_of_filter w p (x ∷ xs) =
    let more = sum_of_filter w p xs in
    let whole = sum_by-cons (λ y. cond (p y) (w y) 0) x xs in
    elim (cases_Bool (p x)) [
      | inl passes ↦
          let kept : filter p (x ∷ xs) ≡ x ∷ filter p xs = cond-true (p x) (x ∷ filter p xs) (filter p xs) passes in
          let own = cond-true (p x) (w x) 0 passes in
          omega (arith, ap (sum_by w) kept, more, sum_by-cons w x (filter p xs), whole, own)
      | inr fails ↦
          let kept : filter p (x ∷ xs) ≡ filter p xs = cond-false (p x) (x ∷ filter p xs) (filter p xs) fails in
          let own = cond-false (p x) (w x) 0 fails in
          omega (arith, ap (sum_by w) kept, more, whole, own)
    ]

pub cond_below : (b c : Bool) (x : ℕ) → (b ≡ true → c ≡ true) → cond b x 0 ≤ cond c x 0
cond_below true true x each = omega arith
cond_below true false x each = let same : false ≡ true = each refl in absurd (cc)
cond_below false c x each = omega arith

pub all_more : {A : Type 0} (p q : A → Bool) (xs : List A) → ((x : A) → p x ≡ true → q x ≡ true)
    → list_all p xs ≡ true → list_all q xs ≡ true
all_more p q [] each all = refl
all_more p q (x ∷ xs) each all =
    let parts = and_parts (p x) (list_all p xs) all in
    and_from (q x) (list_all q xs) (each x parts.0) (all_more p q xs each parts.1)

-- all of them, where the others pass and this one
pub all_but : (p : ℕ → Bool) (k : ℕ) (ns : List ℕ) → p k ≡ true
    → list_all p (filter (λ n. not (n == k)) ns) ≡ true → list_all p ns ≡ true
all_but p k [] own others = refl
all_but p k (n ∷ ns) own others = elim (cases_Bool (n == k)) [
  | inl same ↦
      let at : n ≡ k = eqb-true n k same in
      let rest : list_all p (filter (λ m. not (m == k)) ns) ≡ true = (rw same at others) in
      and_from (p n) (list_all p ns) (ap p at ∙ own) (all_but p k ns own rest)
  | inr other ↦
      let both : list_all p (n ∷ filter (λ m. not (m == k)) ns) ≡ true = (rw other at others) in
      let parts = and_parts (p n) (list_all p (filter (λ m. not (m == k)) ns)) both in
      and_from (p n) (list_all p ns) parts.0 (all_but p k ns own parts.1)
]

-- of lists that come one after another, no more pass than each of them is allowed
pub few_pass : {A B : Type 0} (p : B → Bool) (f : A → List B) (k : ℕ) (w : A → ℕ) (xs : List A)
    → ((x : A) → length (filter p (f x)) ≤ k * w x) → length (filter p (flat_map f xs)) ≤ k * sum_by w xs
few_pass p f k w [] each = omega arith
few_pass p f k w (x ∷ xs) each =
    let here = each x in
    let more = few_pass p f k w xs each in
    let cut : filter p (f x ++ flat_map f xs) ≡ filter p (f x) ++ filter p (flat_map f xs)
    = filter-append p (f x) (flat_map f xs) in
    let size = ap length cut ∙ length-append (filter p (f x)) (filter p (flat_map f xs)) in
    let whole = ap (λ n. k * n) (sum_by-cons w x xs) in
    omega (arith, here, more, size, whole)
