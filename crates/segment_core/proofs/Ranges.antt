-- What the numbers from 1 on are made of, and lists that are read by them.
use Rattle.std.proofs.Common.{◌≡◌, ℕ, ◌+◌, ◌-◌, List, [], ◌∷◌, ◌++◌, length, flat_map, get_or, refl, sym, ap, subst, ◌∙◌, arith}
use Rattle.std.specs.List.{range_with_len, concat}
use Rattle.std.proofs.lemmas.List.{append_assoc, append-nil, get_or_at, length-append}
use Rattle.std.proofs.lemmas.List.Concat.{flat_map-append}
use Rattle.list_members.specs.Ranges.{range_split}

-- the members of a list, read one by one from 1 on
read_on : (before later : List (List ℕ)) (a : ℕ) → a ≡ length before + 1
    → flat_map (λ (n : ℕ). get_or (before ++ later) (n - 1) []) (range_with_len a (length later)) ≡ concat later
read_on before [] a e = refl
read_on before (x ∷ later) a e =
    let at : a - 1 ≡ length before = omega arith in
    let here : get_or (before ++ x ∷ later) (a - 1) [] ≡ x = get_or_at before x later [] (a - 1) (sym at) in
    let long : length (before ++ x ∷ []) ≡ length before + 1 = length-append before (x ∷ []) ∙ omega arith in
    let rest : flat_map (λ (n : ℕ). get_or ((before ++ x ∷ []) ++ later) (n - 1) []) (range_with_len (a + 1)
    (length later)) ≡ concat later =
    read_on (before ++ x ∷ []) later (a + 1) (omega arith) in
    let moved : flat_map (λ (n : ℕ). get_or (before ++ x ∷ later) (n - 1) []) (range_with_len (a + 1) (length later))
    ≡ concat later =
    subst (λ (all : List (List ℕ)). flat_map (λ (n : ℕ). get_or all (n - 1) []) (range_with_len (a + 1) (length later))
    ≡ concat later)
    (append_assoc before (x ∷ []) later) rest in
    cc

pub read_all : (xs : List (List ℕ)) → flat_map (λ (n : ℕ). get_or xs (n - 1) []) (range_with_len 1 (length xs)) ≡ concat xs
read_all xs = read_on [] xs 1 refl

pub range-more : (a n : ℕ) → range_with_len a (n + 1) ≡ range_with_len a n ++ (a + n) ∷ []
range-more a n = range_split a n 1

pub flat_map-more : {B : Type 0} (f : ℕ → List B) (n : ℕ) → flat_map f (range_with_len 1 (n + 1))
    ≡ flat_map f (range_with_len 1 n) ++ f (n + 1)
flat_map-more f n =
    let next : 1 + n ≡ n + 1 = omega arith in
    ap (flat_map f) (range-more 1 n) ∙ flat_map-append f (range_with_len 1 n) ((1 + n) ∷ [])
    ∙ ap (λ xs. flat_map f (range_with_len 1 n) ++ xs) (append-nil (f (1 + n)) ∙ ap f next)

pub joined_more : (f : ℕ → List ℕ) (n : ℕ) (old new piece : List ℕ) → new ≡ old ++ piece → old ≡ flat_map f (range_with_len 1 n)
    → piece ≡ f (n + 1) → new ≡ flat_map f (range_with_len 1 (n + 1))
joined_more f n old new piece e was is = e ∙ rw (was, is) (sym (flat_map-more f n))
