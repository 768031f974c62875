-- Rows that stand behind earlier ones: what holds of each at its place, and what a look-up finds there.
use Rattle.std.proofs.Common.{◌≡◌, Bool, true, List, [], ◌∷◌, ◌++◌, find, Some, None, ◌⊎◌, refl, ap, subst, ◌∙◌, arith, inl, inr}
use Rattle.std.specs.List.{AllByRecursion, Contains}
use Rattle.std.proofs.lemmas.Bool.{cases_Bool}
use Rattle.std.proofs.lemmas.List.Elements.{Contains-append_right}

-- each row has its property behind the rows before it
abbrev pub AllBehind : {X : Type 0} → (List X → X → Type 0) → List X → Type 0
AllBehind {X} P rows = (before after : List X) (row : X) → rows ≡ before ++ row ∷ after → P before row

no_row : {X : Type 0} (before after : List X) (row : X) → [] ≡ before ++ row ∷ after → ⊥
no_row [] after row e = cc
no_row (x ∷ before) after row e = cc

pub AllBehind-nil : {X : Type 0} (P : List X → X → Type 0) → AllBehind P []
AllBehind-nil P before after row e = absurd (no_row before after row e)

-- a row of a list with one more is the last, or stands in the front
last_or_front : {X : Type 0} (rows before after : List X) (last row : X) → rows ++ last ∷ [] ≡ before ++ row ∷ after
    → ((rows ≡ before) × (last ≡ row)) ⊎ ((front : List X) × (rows ≡ before ++ row ∷ front))
last_or_front [] [] after last row e = inl (refl, cc)
last_or_front [] (b ∷ before) after last row e = let e' : [] ≡ before ++ row ∷ after = cc in absurd (no_row before after row e')
last_or_front (x ∷ rows) [] after last row e = let same : x ≡ row = cc in inr (rows, ap (λ y. y ∷ rows) same)
last_or_front (x ∷ rows) (b ∷ before) after last row e =
    let same : x ≡ b = cc in
    let rest : rows ++ last ∷ [] ≡ before ++ row ∷ after = cc in
    elim (last_or_front rows before after last row rest) [
      | inl (p, q) ↦ inl (cc, q)
      | inr (front, p) ↦ inr (front, cc)
    ]

pub AllBehind-push : {X : Type 0} (P : List X → X → Type 0) (rows : List X) (last : X) → AllBehind P rows → P rows last → AllBehind P (rows ++ last ∷ [])
AllBehind-push P rows last all here before after row e =
    elim (last_or_front rows before after last row e) [
      | inl (p, q) ↦ subst (λ b. P b row) p (subst (P rows) q here)
      | inr (front, p) ↦ all before front row p
    ]

-- what holds of each row at its place holds of each row
pub each_placed : {X : Type 0} (P : X → Type 0) (rows : List X) → ((before after : List X) (row : X) → rows ≡ before ++ row ∷ after → P row) → AllByRecursion P rows
each_placed P [] all = tt
each_placed P (x ∷ rows) all = (all [] rows x refl, each_placed P rows (λ before after row e. all (x ∷ before) after row (ap (λ l. x ∷ l) e)))

pub find_front : {X : Type 0} (test : X → Bool) (xs ys : List X) (x : X) → find test xs ≡ Some x → find test (xs ++ ys) ≡ Some x
find_front test [] ys x h = absurd (cc)
find_front test (z ∷ xs) ys x h = elim (cases_Bool (test z)) [ inl t ↦ rw t (rw t at h) | inr f ↦ rw f (find_front test xs ys x (rw f at h)) ]

find_behind : {X : Type 0} (test : X → Bool) (xs ys : List X) → find test xs ≡ None → find test (xs ++ ys) ≡ find test ys
find_behind test [] ys h = refl
find_behind test (z ∷ xs) ys h = elim (cases_Bool (test z)) [ inl t ↦ absurd (let h' = rw t at h in cc) | inr f ↦ rw f (find_behind test xs ys (rw f at h)) ]

-- a look-up finds the first row that meets its test
pub find_there : {X : Type 0} (test : X → Bool) (before after : List X) (row : X) → find test before ≡ None → test row ≡ true → find test (before ++ row ∷ after) ≡ Some row
find_there test before after row none hit =
    let here : find test (row ∷ after) ≡ Some row = rw hit in
    find_behind test before (row ∷ after) none ∙ here

pub Contains-found : {X : Type 0} (test : X → Bool) (rows : List X) (row : X) → find test rows ≡ Some row → Contains rows row
Contains-found test [] row h = absurd (cc)
Contains-found {X} test (x ∷ rows) row h =
    elim (cases_Bool (test x)) [
      | inl t ↦
          let h' = rw t at h in
          let same : x ≡ row = cc in
          (0, omega arith, same)
      | inr f ↦ Contains-append_right {X = X} (x ∷ []) rows row (Contains-found test rows row (rw f at h))
    ]
