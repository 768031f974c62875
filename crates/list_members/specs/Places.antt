-- Numbers of a list by their places, and lists that are written place by place.
use Rattle.std.proofs.Common.{◌≡◌, ◌≢◌, ℕ, zero, suc, ◌+◌, ◌-◌, ◌<◌, ◌≤◌, List, [], ◌∷◌, length}
use Rattle.std.proofs.Common.{◌++◌, get_or, set, take, drop, map, append_assoc}
use Rattle.std.proofs.Common.{replicate, refl, sym, ◌∙◌, ap, arith, inl, inr}
use Rattle.std.specs.List.{range_with_len}
use Rattle.std.proofs.lemmas.Bool.{cases_eq, cases_lt}
use Rattle.std.proofs.lemmas.List.{ext_get_or, get_or-set_same, get_or-set_other, get_or-take}
use Rattle.std.proofs.lemmas.List.{length-take-le, length-take, get_or_past}
use Rattle.std.proofs.lemmas.List.{length-drop, take_all}
use Rattle.std.proofs.lemmas.List.FromFn.{fill_by_all}

pub get_or-zeros : (n k : ℕ) → get_or {A = ℕ} (replicate n 0) k 0 ≡ 0
get_or-zeros zero k = refl
get_or-zeros (suc n) zero = refl
get_or-zeros (suc n) (suc k) = get_or-zeros n k

-- a bound of all numbers is one of those in front
pub take-below :
    (bound n : ℕ) (xs : List ℕ) → 0 < bound → ((k : ℕ) → get_or xs k 0 < bound) → (k : ℕ)
    → get_or (take n xs) k 0 < bound
take-below bound zero xs h below k = h
take-below bound (suc n) [] h below k = h
take-below bound (suc n) (x ∷ xs) h below zero = below 0
take-below bound (suc n) (x ∷ xs) h below (suc k) = take-below bound n xs h (λ i. below (suc i)) k

-- one more number is written, at the place that is its own
pub set_grows :
    (place value : ℕ → ℕ) (xs : List ℕ) (n v : ℕ) → place n < length xs → v ≡ value n
    → ((i : ℕ) → i < n → place i ≢ place n) → ((i : ℕ) → i < n → get_or xs (place i) 0 ≡ value i)
    → (i : ℕ) → i < n + 1 → get_or (set xs (place n) v) (place i) 0 ≡ value i
set_grows place value xs n v room e apart before i h = elim (cases_eq i n) [
  | inl same ↦
      ap (λ (k : ℕ). get_or (set xs (place n) v) (place k) 0) same
      ∙ get_or-set_same xs (place n) v 0 room
      ∙ e
      ∙ ap value (sym same)
  | inr other ↦
      let lower : i < n = omega arith in
      get_or-set_other xs (place n) (place i) v 0 (apart i lower) ∙ before i lower
]

-- the same where the places follow one another
pub set_next :
    (value : ℕ → ℕ) (xs : List ℕ) (n v : ℕ) → n < length xs → v ≡ value n
    → ((i : ℕ) → i < n → get_or xs i 0 ≡ value i) → (i : ℕ) → i < n + 1
    → get_or (set xs n v) i 0 ≡ value i
set_next value xs n v room e before =
    set_grows (λ (i : ℕ). i) value xs n v room e
    (λ i below same. absurd (omega (arith, below, same))) before

-- lists with one front have the same numbers there
pub same_in_front :
    (n : ℕ) (xs ys : List ℕ) → take n xs ≡ take n ys
    → (k : ℕ) → k < n → get_or xs k 0 ≡ get_or ys k 0
same_in_front n xs ys same k h =
    sym (get_or-take n xs k 0 h) ∙ ap (λ (zs : List ℕ). get_or zs k 0) same ∙ get_or-take n ys k 0 h

-- lists with the same numbers in front have one front
pub same_front :
    (n : ℕ) (xs ys : List ℕ) → n ≤ length xs → n ≤ length ys
    → ((k : ℕ) → k < n → get_or xs k 0 ≡ get_or ys k 0) → take n xs ≡ take n ys
same_front n xs ys long long' same =
    let l : length (take n xs) ≡ n = length-take-le n xs long in
    let l' : length (take n ys) ≡ n = length-take-le n ys long' in
    ext_get_or 0 (take n xs) (take n ys) (l ∙ sym l')
    (λ k h.
    let inside : k < n = omega arith in
    get_or-take n xs k 0 inside ∙ same k inside ∙ sym (get_or-take n ys k 0 inside))

-- as many as are left are all that are left
pub take-rest : {A : Type 0} (n : ℕ) (xs : List A) → take (length xs - n) (drop n xs) ≡ drop n xs
take-rest n xs =
    take_all (length xs - n) (drop n xs) (let size = length-drop n xs in omega (arith, size))

-- a front, number by number
pub take-by_place : (n : ℕ) (xs : List ℕ) → n ≤ length xs
    → take n xs ≡ map (λ k. get_or xs k 0) (range_with_len 0 n)
take-by_place n xs long =
    fill_by_all (λ k. get_or xs k 0) (take n xs) n 0 (length-take-le n xs long)
    (λ k inside. get_or-take n xs k 0 inside)

-- a front behind which all is 0 has all the numbers
pub get_or-front :
    (n : ℕ) (xs : List ℕ) → ((k : ℕ) → n ≤ k → get_or xs k 0 ≡ 0) → (k : ℕ)
    → get_or (take n xs) k 0 ≡ get_or xs k 0
get_or-front n xs zeros k = elim (cases_lt k n) [
  | inl inside ↦ get_or-take n xs k 0 inside
  | inr behind ↦
      get_or_past (take n xs) k 0 (let size = length-take n xs in omega (arith, size))
      ∙ sym (zeros k behind)
]

-- what is joined, one group on
pub append_on : {A : Type 0} (done group rest all now : List A) → all ≡ done ++ (group ++ rest)
    → now ≡ done ++ group → all ≡ now ++ rest
append_on done group rest all now whole is =
    whole ∙ sym (append_assoc done group rest) ∙ ap (λ xs. xs ++ rest) (sym is)
