-- The texts of a list's members, one after another, as a loop writes them behind a text.
use Rattle.std.proofs.Common.{◌≡◌, ℕ, ◌+◌, ◌<◌, List, [], ◌∷◌, ◌++◌, length, map, flat_map, take, get_or, ap, sym, ◌∙◌, append-nil, append_assoc}
use Rattle.std.proofs.lemmas.List.{map_more}
use Rattle.std.proofs.lemmas.Grind.{flat_map-append}

one_more : {Y : Type 0} (start : List ℕ) (f : Y → List ℕ) (ys : List Y) (y : Y) {old new shown piece : List ℕ}
    → old ≡ start ++ flat_map f ys → new ≡ old ++ shown → shown ≡ piece → piece ≡ f y → new ≡ start ++ flat_map f (ys ++ y ∷ [])
one_more start f ys y {shown = shown} before pushed same is =
    pushed
    ∙ ap (λ (t : List ℕ). t ++ shown) before
    ∙ append_assoc start (flat_map f ys) shown
    ∙ ap (λ (t : List ℕ). start ++ (flat_map f ys ++ t)) (same ∙ is ∙ sym (append-nil (f y)))
    ∙ ap (λ (t : List ℕ). start ++ t) (sym (flat_map-append f ys (y ∷ [])))

-- one member more is written
pub pieces_more : {X Y : Type 0} (start : List ℕ) (f : Y → List ℕ) (view : X → Y) (xs : List X) (i : ℕ) (d : X) {old new shown piece : List ℕ} → i < length xs
    → old ≡ start ++ flat_map f (map view (take i xs)) → new ≡ old ++ shown → shown ≡ piece → piece ≡ f (view (get_or xs i d))
    → new ≡ start ++ flat_map f (map view (take (i + 1) xs))
pieces_more start f view xs i d within before pushed same is =
    one_more start f (map view (take i xs)) (view (get_or xs i d)) before pushed same is
    ∙ ap (λ ys. start ++ flat_map f ys) (sym (map_more view xs i d within))
