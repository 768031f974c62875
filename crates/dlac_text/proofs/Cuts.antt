-- What the first elements of a list are, and what is behind them.
use Rattle.std.proofs.Common.{◌≡◌, ℕ, ◌-◌, ◌≤◌, List, [], ◌∷◌, ◌++◌, length, get_or, take, drop, map, arith, sym, ap, ◌∙◌, subst}
use Rattle.std.proofs.lemmas.Bool.{and_parts}
use Rattle.std.proofs.lemmas.List.{take_all}
use Rattle.list_members.specs.Places.{append_on}
use Rattle.dlac_text.specs.Alphabet.{IsDlac, code_of}
use Rattle.dlac_text.specs.SixBits.{packed_bytes}

-- what is behind the first n elements
abbrev pub behind : ℕ → List ℕ → List ℕ
behind n xs = take (length xs - n) (drop n xs)

pub first_one : (xs : List ℕ) → 1 ≤ length xs → xs ≡ get_or xs 0 0 ∷ behind 1 xs
first_one [] h = absurd (omega arith)
first_one (a ∷ more) h = ap (λ ys. a ∷ ys) (sym (take_all _ more (omega arith)))

pub first_three : (xs : List ℕ) → 3 ≤ length xs → xs ≡ get_or xs 0 0 ∷ get_or xs 1 0 ∷ get_or xs 2 0 ∷ behind 3 xs
first_three [] h = absurd (omega arith)
first_three (a ∷ []) h = absurd (omega arith)
first_three (a ∷ b ∷ []) h = absurd (omega arith)
first_three (a ∷ b ∷ c ∷ more) h = ap (λ ys. a ∷ b ∷ c ∷ ys) (sym (take_all _ more (omega arith)))

pub first_four :
    (xs : List ℕ) → 4 ≤ length xs → xs ≡ get_or xs 0 0 ∷ get_or xs 1 0 ∷ get_or xs 2 0 ∷ get_or xs 3 0 ∷ behind 4 xs
first_four [] h = absurd (omega arith)
first_four (a ∷ []) h = absurd (omega arith)
first_four (a ∷ b ∷ []) h = absurd (omega arith)
first_four (a ∷ b ∷ c ∷ []) h = absurd (omega arith)
first_four (a ∷ b ∷ c ∷ d ∷ more) h = ap (λ ys. a ∷ b ∷ c ∷ d ∷ ys) (sym (take_all _ more (omega arith)))

pub IsDlac-tail : (x : ℕ) (xs : List ℕ) → IsDlac (x ∷ xs) → IsDlac xs
IsDlac-tail x xs h = (and_parts _ _ h).1

pub IsDlac-behind_four : (xs : List ℕ) → 4 ≤ length xs → IsDlac xs → IsDlac (behind 4 xs)
IsDlac-behind_four [] l h = absurd (omega arith)
IsDlac-behind_four (a ∷ []) l h = absurd (omega arith)
IsDlac-behind_four (a ∷ b ∷ []) l h = absurd (omega arith)
IsDlac-behind_four (a ∷ b ∷ c ∷ []) l h = absurd (omega arith)
IsDlac-behind_four (a ∷ b ∷ c ∷ d ∷ more) l h =
    let cut : behind 4 (a ∷ b ∷ c ∷ d ∷ more) ≡ more = take_all _ more (omega arith) in
    let third = IsDlac-tail b (c ∷ d ∷ more) (IsDlac-tail a (b ∷ c ∷ d ∷ more) h) in
    subst IsDlac (sym cut) (IsDlac-tail d more (IsDlac-tail c (d ∷ more) third))

-- four more characters, and their three bytes
pub packed_step :
    (all so_far xs group new : List ℕ) → 4 ≤ length xs → all ≡ so_far ++ packed_bytes (map code_of xs ++ 0 ∷ []) → group ≡ packed_bytes (code_of (get_or xs 0 0) ∷ code_of (get_or xs 1 0) ∷ code_of (get_or xs 2 0) ∷ code_of (get_or xs 3 0) ∷ []) → new ≡ so_far ++ group → all ≡ new ++ packed_bytes (map code_of (behind 4 xs) ++ 0 ∷ [])
packed_step all so_far xs group new l e g h =
    let cut = ap (λ ys. packed_bytes (map code_of ys ++ 0 ∷ [])) (first_four xs l) in
    let more = packed_bytes (map code_of (behind 4 xs) ++ 0 ∷ []) in
    append_on so_far group more all new
    (e ∙ ap (λ bytes. so_far ++ bytes) (cut ∙ ap (λ bytes. bytes ++ more) (sym g))) h
