-- Words with one front.
use Rattle.std.proofs.Common.{◌≡◌, ℕ, ◌≤◌, List, [], ◌∷◌, ◌++◌, ◌-◌, length, take, drop, subst, length-drop, refl, sym, ◌∙◌, ap, ap₂, arith}
use Rattle.std.proofs.lemmas.List.{take-append-drop}
use Rattle.gf256_core.specs.Field.{IsField}
use Rattle.rs_code.specs.CodeWord.{IsInstance, IsCodeWord, differences}
use Rattle.rs_code.proofs.Differences.{differences-cons_same, differences-cons_bounds}
use Rattle.rs_code.proofs.Distance.{same_code_word}

differences-at_most : (xs ys : List ℕ) → length xs ≡ length ys → differences xs ys ≤ length xs
differences-at_most [] [] l = omega arith
differences-at_most [] (y ∷ ys) l = absurd (omega arith)
differences-at_most (x ∷ xs) [] l = absurd (omega arith)
differences-at_most (x ∷ xs) (y ∷ ys) l =
    let rest = differences-at_most xs ys (omega arith) in
    let first = (differences-cons_bounds x y xs ys).1 in
    omega arith

-- words with one front differ only behind it
pub differences-front :
    (front xs ys : List ℕ) → length xs ≡ length ys → differences (front ++ xs) (front ++ ys) ≤ length xs
differences-front [] xs ys l = differences-at_most xs ys l
differences-front (b ∷ front) xs ys l =
    let same = differences-cons_same b b (front ++ xs) (front ++ ys) refl in
    let rest = differences-front front xs ys l in
    omega arith

-- code words with one front are one
pub same_from_front :
    (F : IsField 391) (count roots first : ℕ) (word other : List ℕ) → IsInstance count roots first
    → IsCodeWord count roots first word → IsCodeWord count roots first other
    → take (count - roots) word ≡ take (count - roots) other → word ≡ other
same_from_front F count roots first word other instance code code' same =
    let below = instance.below in
    let l : length (drop (count - roots) word) ≡ roots = length-drop (count - roots) word ∙ (let e = code.long in omega arith) in
    let l' : length (drop (count - roots) other) ≡ roots = length-drop (count - roots) other ∙ (let e = code'.long in omega arith) in
    let split : word ≡ take (count - roots) other ++ drop (count - roots) word =
    sym (take-append-drop (count - roots) word) ∙ ap (λ (w : List ℕ). w ++ drop (count - roots) word) same in
    let few : differences (take (count - roots) other ++ drop (count - roots) word) (take (count - roots) other ++ drop (count - roots) other)
    ≤ length (drop (count - roots) word) =
    differences-front (take (count - roots) other) (drop (count - roots) word) (drop (count - roots) other) (l ∙ sym l') in
    let at_most : differences word other ≤ roots =
    subst (λ (d : ℕ). d ≤ roots)
    (sym (ap₂ differences split (sym (take-append-drop (count - roots) other))))
    (let f = few in omega arith) in
    same_code_word F count roots first word other instance.short code code' at_most
