-- Where a frame that was kept stands.
use Rattle.std.proofs.Common.{◌≡◌, ℕ, zero, suc, ◌<◌, ◌≤◌, ◌+◌, nat_lt, true, false, if◌then◌else◌, List, [], ◌∷◌, length, map, Option, Some, None, refl, sym, ap, ◌∙◌, arith, rules, tests, slice_get, slice_index_or, inl, inr}
use Rattle.std.proofs.lemmas.Option.{slice_get_cases, slice_get_past, get_or_from_slice_get}
use Rattle.std.proofs.lemmas.Bool.Decides.{nat_tests}
use Rattle.std.proofs.lemmas.List.{length-map}
use Rattle.std.specs.Ordering.{is_lt, nat_cmp}
use Rattle.ground_core.specs.Airing.{Frame}
use Rattle.refusal_core.specs.declared.reason.Reason.TheVariants.{NoFrame, Early, Late}
use Rattle.fisb_app.specs.Reading.{frame_refusal}
use Rattle.fisb_app.specs.Stands.{Aired, aired_view}

pub lent-found : {A : Type 0} (xs : List A) (place : ℕ) (x : A) → place < length xs → x ≡ slice_index_or xs place x → slice_get xs place ≡ Some x
lent-found xs place x within is = elim (slice_get_cases xs place).1 [
  | inl (y, inside, found, got) ↦ found ∙ ap Some (sym (is ∙ get_or_from_slice_get xs place y x found))
  | inr (past, none) ↦ absurd (omega (arith, within, past))
]

pub map-found : {A B : Type 0} (f : A → B) (xs : List A) (place : ℕ) (x : A) → slice_get xs place ≡ Some x → slice_get (map f xs) place ≡ Some (f x)
map-found f [] place x e = cc
map-found f (y ∷ ys) zero x e = let same : y ≡ x = cc in ap (λ z. Some (f z)) same
map-found f (y ∷ ys) (suc place) x e = map-found f ys place x e

pub map-past : {A B : Type 0} (f : A → B) (xs : List A) (place : ℕ) → length xs ≤ place → slice_get (map f xs) place ≡ None
map-past f xs place past = let many = length-map xs f in slice_get_past (map f xs) place (omega (arith, many, past))

pub kept-found : (kept : List Aired) (sent : List Frame) (number : ℕ) (one : Aired) → kept ≡ map aired_view sent → slice_get kept number ≡ Some one
    → (frame : Frame) × (slice_get sent number ≡ Some frame) × (one ≡ aired_view frame)
kept-found kept sent number one is found = sent-found sent number one (ap (λ list. slice_get list number) (sym is) ∙ found)
  where
    sent-found : (sent : List Frame) (number : ℕ) (one : Aired) → slice_get (map aired_view sent) number ≡ Some one → (frame : Frame) × (slice_get sent number ≡ Some frame) × (one ≡ aired_view frame)
    sent-found [] number one found = cc
    sent-found (frame ∷ more) zero one found = (frame, refl, cc)
    sent-found (frame ∷ more) (suc number) one found = sent-found more number one found

pub none-kept : (kept : List Aired) (sent : List Frame) (number : ℕ) → kept ≡ map aired_view sent → slice_get kept number ≡ None → slice_get sent number ≡ None
none-kept kept sent number is found = none-sent sent number (ap (λ list. slice_get list number) (sym is) ∙ found)
  where
    none-sent : (sent : List Frame) (number : ℕ) → slice_get (map aired_view sent) number ≡ None → slice_get sent number ≡ None
    none-sent [] number found = refl
    none-sent (frame ∷ more) zero found = cc
    none-sent (frame ∷ more) (suc number) found = none-sent more number found

pub no-frame : (allowed moment : ℕ) (found : Option Frame) → found ≡ None → frame_refusal allowed moment found ≡ Some NoFrame
no-frame allowed moment found is = ap (frame_refusal allowed moment) is

pub before : (one other : ℕ) → is_lt (nat_cmp one other) ≡ true → one < other
before one other e = grind (arith, nat_tests)

pub too-early : (allowed moment : ℕ) (found : Option Frame) (frame : Frame) → found ≡ Some frame → moment < frame.moment → frame_refusal allowed moment found ≡ Some Early
too-early allowed moment found frame is before =
    let early : nat_lt moment frame.moment ≡ true = search (rules, tests) in
    ap (frame_refusal allowed moment) is ∙ ap (λ b. if b then Some Early else (if nat_lt (frame.moment + allowed) moment then Some Late else None)) early

not-early : (allowed moment : ℕ) (found : Option Frame) (frame : Frame) → found ≡ Some frame → frame.moment ≤ moment
    → frame_refusal allowed moment found ≡ (if nat_lt (frame.moment + allowed) moment then Some Late else None)
not-early allowed moment found frame is after =
    let early : nat_lt moment frame.moment ≡ false = search (rules, tests) in
    ap (frame_refusal allowed moment) is ∙ ap (λ b. if b then Some Early else (if nat_lt (frame.moment + allowed) moment then Some Late else None)) early

pub too-late : (allowed moment : ℕ) (found : Option Frame) (frame : Frame) → found ≡ Some frame → frame.moment ≤ moment → frame.moment + allowed < moment
    → frame_refusal allowed moment found ≡ Some Late
too-late allowed moment found frame is sent after =
    let test : nat_lt (frame.moment + allowed) moment ≡ true = search (rules, tests) in
    not-early allowed moment found frame is sent ∙ ap (λ b. if b then Some Late else None) test

pub in-time : (allowed moment : ℕ) (found : Option Frame) (frame : Frame) → found ≡ Some frame → frame.moment ≤ moment → moment ≤ frame.moment + allowed
    → frame_refusal allowed moment found ≡ None
in-time allowed moment found frame is sent within =
    let test : nat_lt (frame.moment + allowed) moment ≡ false = search (rules, tests) in
    not-early allowed moment found frame is sent ∙ ap (λ b. if b then Some Late else None) test
