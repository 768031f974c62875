-- Members of numbers that follow one another, tests of all members of a list, and what is found
-- among those that pass another test.
use Rattle.std.proofs.Common.{◌≡◌, ℕ, zero, suc, ◌+◌, ◌<◌, ◌≤◌, Bool, true, false, List, [], ◌∷◌}
use Rattle.std.proofs.Common.{◌++◌, filter, flat_map, find, map, zero-add}
use Rattle.std.proofs.Common.{refl, ap, ◌∙◌, inl, inr, arith}
use Rattle.std.specs.List.{list_all, list_any, range_with_len}
use Rattle.std.proofs.lemmas.Bool.{cases_Bool, cases_eq, and_parts, and_cases, and_from}
use Rattle.std.proofs.lemmas.Bool.{false_from_ne_true}
use Rattle.list_members.specs.Membership.{IsIn}

pub in_range : (n a count : ℕ) → IsIn n (range_with_len a count) → (a ≤ n) × (n < a + count)
in_range n a zero h = absurd h
in_range n a (suc count) (inl e) = (omega arith, omega arith)
in_range n a (suc count) (inr h) =
    let more = in_range n (a + 1) count h in (omega arith, omega arith)

pub range_has : (n a count : ℕ) → a ≤ n → n < a + count → IsIn n (range_with_len a count)
range_has n a zero least most = absurd (omega arith)
range_has n a (suc count) least most = elim (cases_eq n a) [
  | inl e ↦ inl e
  | inr other ↦ inr (range_has n (a + 1) count (omega arith) (omega arith))
]

-- numbers from one on, cut in two
pub range_split : (a m k : ℕ)
    → range_with_len a (m + k) ≡ range_with_len a m ++ range_with_len (a + m) k
range_split a zero k =
    ap (λ n. range_with_len a n) (zero-add k) ∙ ap (λ n. range_with_len n k) (omega arith)
range_split a (suc m) k =
    let e : suc m + k ≡ suc (m + k) = omega arith in
    ap (λ n. range_with_len a n) e
    ∙ ap (λ (b : List ℕ). a ∷ b)
    (range_split (a + 1) m k
    ∙ ap (λ n. range_with_len (a + 1) m ++ range_with_len n k) (omega arith))

pub all_in : {A : Type 0} (p : A → Bool) (x : A) (xs : List A) → list_all p xs ≡ true → IsIn x xs
    → p x ≡ true
all_in p x [] all h = absurd h
all_in p x (y ∷ ys) all (inl e) = ap p e ∙ (and_parts (p y) (list_all p ys) all).0
all_in p x (y ∷ ys) all (inr h) = all_in p x ys (and_parts (p y) (list_all p ys) all).1 h

pub in_all : {A : Type 0} (p : A → Bool) (xs : List A) → ((x : A) → IsIn x xs → p x ≡ true)
    → list_all p xs ≡ true
in_all p [] each = refl
in_all p (y ∷ ys) each =
    and_from (p y) (list_all p ys) (each y (inl refl)) (in_all p ys (λ x h. each x (inr h)))

pub not_all_in : {A : Type 0} (p : A → Bool) (xs : List A) → list_all p xs ≡ false
    → (x : A) × IsIn x xs × (p x ≡ false)
not_all_in p [] h = absurd (cc)
not_all_in p (y ∷ ys) h = elim (and_cases (p y) (list_all p ys) h) [
  | inl here ↦ (y, inl refl, here)
  | inr later ↦ let more = not_all_in p ys later in (more.0, inr more.1, more.2)
]

pub not_all : {A : Type 0} (p : A → Bool) (x : A) (xs : List A) → IsIn x xs → p x ≡ false
    → list_all p xs ≡ false
not_all p x xs there fails = false_from_ne_true (list_all p xs)
    (λ all. let passes : p x ≡ true = all_in p x xs all there in absurd (cc))

-- tests and functions that agree at each member
pub list_all_same : {A : Type 0} (p q : A → Bool) (xs : List A) → ((x : A) → IsIn x xs → p x ≡ q x)
    → list_all p xs ≡ list_all q xs
list_all_same p q [] each = refl
list_all_same p q (x ∷ xs) each =
    let here : p x ≡ q x = each x (inl refl) in
    let later : list_all p xs ≡ list_all q xs = list_all_same p q xs (λ y h. each y (inr h)) in cc

pub list_any_same : {A : Type 0} (p q : A → Bool) (xs : List A) → ((x : A) → IsIn x xs → p x ≡ q x)
    → list_any p xs ≡ list_any q xs
list_any_same p q [] each = refl
list_any_same p q (x ∷ xs) each =
    let here : p x ≡ q x = each x (inl refl) in
    let later : list_any p xs ≡ list_any q xs = list_any_same p q xs (λ y h. each y (inr h)) in cc

pub map_same : {A B : Type 0} (f g : A → B) (xs : List A) → ((x : A) → IsIn x xs → f x ≡ g x)
    → map f xs ≡ map g xs
map_same f g [] each = refl
map_same f g (x ∷ xs) each =
    let here : f x ≡ g x = each x (inl refl) in
    let later : map f xs ≡ map g xs = map_same f g xs (λ y h. each y (inr h)) in cc

pub flat_map_same : {A B : Type 0} (f g : A → List B) (xs : List A)
    → ((x : A) → IsIn x xs → f x ≡ g x)
    → flat_map f xs ≡ flat_map g xs
flat_map_same f g [] each = refl
flat_map_same f g (x ∷ xs) each =
    let here : f x ≡ g x = each x (inl refl) in
    let later : flat_map f xs ≡ flat_map g xs = flat_map_same f g xs (λ y h. each y (inr h)) in cc

-- a test that none but those pass that pass another finds the same among these
pub find_filter : {A : Type 0} (p q : A → Bool) → ((x : A) → p x ≡ true → q x ≡ true)
    → (xs : List A)
    → find p (filter q xs) ≡ find p xs
find_filter p q each [] = refl
find_filter p q each (x ∷ xs) = elim (cases_Bool (p x)) [
  | inl is ↦ let passes = each x is in rw (passes, is) refl
  | inr other ↦ elim (cases_Bool (q x)) [
    | inl passes ↦ rw (passes, other) (find_filter p q each xs)
    | inr fails ↦ rw (fails, other) (find_filter p q each xs)
  ]
]

pub any_filter : {A : Type 0} (p q : A → Bool) → ((x : A) → p x ≡ true → q x ≡ true) → (xs : List A)
    → list_any p (filter q xs) ≡ list_any p xs
any_filter p q each [] = refl
any_filter p q each (x ∷ xs) = elim (cases_Bool (p x)) [
  | inl is ↦ let passes = each x is in rw (passes, is) refl
  | inr other ↦ elim (cases_Bool (q x)) [
    | inl passes ↦ rw (passes, other) (any_filter p q each xs)
    | inr fails ↦ rw (fails, other) (any_filter p q each xs)
  ]
]
