-- Places that are added to a queue, and taken out of it.
use Rattle.std.proofs.Common.{◌≡◌, ℕ, ◌+◌, ◌<◌, ◌≤◌, ◌&&◌, true, false, List, [], ◌∷◌, ◌++◌, inl, inr, subst, ◌||◌, refl, sym, ap, ◌∙◌, nat_le, cond, arith, IsPermutation, Result, Ok, Err, OnOk, IsOk}
use Rattle.std.specs.List.{list_any}
use Rattle.std.proofs.lemmas.Bool.{le-leb, or_cases, or_left, or_right}
use Rattle.std.proofs.lemmas.Bool.Decides.{nat_tests}
use Rattle.std.proofs.lemmas.List.Folds.{list_any-append}
use Rattle.std.proofs.lemmas.List.Sorted.{list_any-IsPermutation, sum_by_popped, sum_by_pushed}
use Rattle.std.specs.Prelude.{IsSomeAnd, slice_get, slice_index_or}
use Rattle.undo_map.specs.declared.end_queue.Place.{Place}
use Rattle.std.specs.Ordering.{is_eq}
use Rattle.std.specs.declared.cmp.Ordering.{Ordering}
use Rattle.undo_map.specs.Ends.{HasAdded, HasLeft, KeepsPlaces, KeepsPlacesBy, due_places}

pub at-ok : {A B P : Type 0} (r : Result A B) → IsOk r → OnOk r P → P
at-ok (Ok x) is p = p
at-ok (Err e) is p = absurd (cc)

module _ {K : Type 0} where
  pub keeps-added : (added : ℕ × K) (old new : List (ℕ × K)) → IsPermutation (added ∷ old) new → KeepsPlaces old new
  keeps-added added old new moves test some =
      sym (list_any-IsPermutation test (added ∷ old) new moves) ∙ or_right (test added) (list_any test old) some

  pub keeps-added-by :
      (R : K → K → Ordering) (added : ℕ × K) (old new : List (ℕ × K)) → IsPermutation (added ∷ old) new → KeepsPlacesBy R old new
  keeps-added-by R added old new moves key by some =
      keeps-added added old new moves (λ place. is_eq (R place.1 key) && nat_le place.0 by) some

  pub has-added-place : (added : ℕ × K) (old new : List (ℕ × K)) → IsPermutation (added ∷ old) new → HasAdded added new
  has-added-place added old new moves test passes =
      sym (list_any-IsPermutation test (added ∷ old) new moves) ∙ or_left (test added) (list_any test old) passes

  pub has-left : (taken : ℕ × K) (old new : List (ℕ × K)) → IsPermutation old (taken ∷ new) → HasLeft taken old new
  has-left taken old new moves test fails some =
      let any : (test taken || list_any test new) ≡ true = sym (list_any-IsPermutation test old (taken ∷ new) moves) ∙ some in
      rw fails at any

  pub left-behind : (place : ℕ × K) (places : List (ℕ × K)) → HasLeft place (place ∷ places) places
  left-behind place places test fails some =
      let any : (test place || list_any test places) ≡ true = some in
      rw fails at any

-- a place that is added behind others
pub keeps-added-behind :
    {K : Type 0} (added : ℕ × K) (front old new : List (ℕ × K)) → IsPermutation (added ∷ old) new
    → KeepsPlaces (front ++ old) (front ++ new)
keeps-added-behind added front old new moves test some =
    list_any-append test front new
    ∙ elim (or_cases (list_any test front) (list_any test old) (sym (list_any-append test front old) ∙ some)) [
      | inl here ↦ or_left (list_any test front) (list_any test new) here
      | inr there ↦ or_right (list_any test front) (list_any test new) (keeps-added added old new moves test there)
    ]

pub has-added-behind :
    {K : Type 0} (added : ℕ × K) (front old new : List (ℕ × K)) → IsPermutation (added ∷ old) new → HasAdded added (front ++ new)
has-added-behind added front old new moves test passes =
    list_any-append test front new ∙ or_right (list_any test front) (list_any test new) (has-added-place added old new moves test passes)

-- how many places have come, where one is added that has not, and where one is taken that has
pub due-added :
    {K : Type 0} (now end : ℕ) (key : K) (old new : List (ℕ × K)) → now < end → IsPermutation ((end, key) ∷ old) new
    → due_places now new ≡ due_places now old
due-added {K} now end key old new later moves =
    let test : nat_le end now ≡ false = grind (arith, nat_tests) in
    let come : ℕ × K → ℕ = λ place. cond (nat_le place.0 now) 1 0 in
    let pushed : due_places now new ≡ come (end, key) + due_places now old = sum_by_pushed come (end, key) old new moves in
    let zero : come (end, key) ≡ 0 = rw test refl in
    pushed ∙ ap (λ (n : ℕ). n + due_places now old) zero ∙ omega arith

pub due-taken :
    {K : Type 0} (now : ℕ) (place : ℕ × K) (old new : List (ℕ × K)) → place.0 ≤ now → IsPermutation old (place ∷ new)
    → due_places now new < due_places now old
due-taken {K} now place old new come moves =
    let test : nat_le place.0 now ≡ true = le-leb place.0 now come in
    let weight : ℕ × K → ℕ = λ p. cond (nat_le p.0 now) 1 0 in
    let popped : due_places now new + weight place ≡ due_places now old = sum_by_popped weight place old new moves in
    let one : weight place ≡ 1 = rw test refl in
    let more : due_places now new + 1 ≡ due_places now old = ap (λ (n : ℕ). due_places now new + n) (sym one) ∙ popped in
    omega arith

-- the first of the places of a heap has come
pub first-come :
    {K : Type 0} (now : ℕ) (items : List (Place K)) (first : Place K)
    → IsSomeAnd (slice_get items 0) (λ place. place.end ≤ now) → first ≡ slice_index_or items 0 first → first.end ≤ now
first-come now [] first come is = absurd come
first-come {K} now (x ∷ items) first come is = subst (λ (p : Place K). p.end ≤ now) (sym is) come
