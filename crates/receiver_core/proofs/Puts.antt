-- Entries that are put one after another, and lists of which nothing is left.
use Rattle.std.proofs.Common.{◌≡◌, ℕ, ◌+◌, List, [], ◌∷◌, ◌++◌, drop, map, flat_map, slice_get, Some, refl, sym, ap, ◌∙◌}
use Rattle.std.proofs.lemmas.List.{append-nil, drop_more, map-append}
use Rattle.std.proofs.lemmas.Option.{get_or_from_slice_get, slice_get_within}
use Rattle.picture_core.specs.Entry.{Entry}
use Rattle.picture_core.specs.Kept.{put, put_all}

pub put_all_append : (xs ys kept : List Entry) → put_all (xs ++ ys) kept ≡ put_all ys (put_all xs kept)
put_all_append [] ys kept = refl
put_all_append (x ∷ xs) ys kept = put_all_append xs ys (put x kept)

pub put_one_more : (xs ys all kept now : List Entry) → all ≡ put_all (xs ++ ys) kept → now ≡ put_all xs kept
    → all ≡ put_all ys now
put_one_more xs ys all kept now whole is = whole ∙ put_all_append xs ys kept ∙ ap (put_all ys) (sym is)

-- where nothing is left, all is put, and all is told
pub all_put : {A : Type 0} (f : A → List Entry) (left : List A) (all now : List Entry)
    → left ≡ [] → all ≡ put_all (flat_map f left) now → now ≡ all
all_put f left all now none same = sym (same ∙ ap (λ xs. put_all (flat_map f xs) now) none)

pub all_told : {A B : Type 0} (f : A → List B) (left : List A) (all now : List B)
    → left ≡ [] → all ≡ now ++ flat_map f left → now ≡ all
all_told f left all now none same = sym (same ∙ ap (λ xs. now ++ flat_map f xs) none ∙ append-nil now)

pub map_flat : {A B C : Type 0} (g : B → C) (f : A → List B) (xs : List A) → flat_map (λ x. map g (f x)) xs ≡ map g
    (flat_map f xs)
map_flat g f [] = refl
map_flat g f (x ∷ xs) = ap (λ ts. map g (f x) ++ ts) (map_flat g f xs) ∙ sym (map-append g (f x) (flat_map f xs))

-- the elements from a place on are the one there and those after it
pub drop_got : {A : Type 0} (xs : List A) (i : ℕ) (x : A) → slice_get xs i ≡ Some x → drop i xs ≡ x ∷ drop (i + 1) xs
drop_got xs i x is =
    drop_more xs i x (slice_get_within xs i x is) ∙ ap (λ y. y ∷ drop (i + 1) xs) (get_or_from_slice_get xs i x x is)
