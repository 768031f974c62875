-- A list of bytes, cut at each byte that is c: its first part, by where `position` finds the first such byte.
use Rattle.std.proofs.Common.{◌≡◌, ◌==◌, ℕ, ◌+◌, ◌≤◌, nat_lt, List, [], ◌∷◌, Some, None, length, take, drop, sym, ap, ◌∙◌, arith, inl, inr}
use Rattle.std.proofs.lemmas.Bool.{cases_Bool}
use Rattle.std.proofs.lemmas.Bool.Decides.{nat_tests}
use Rattle.std.proofs.lemmas.Grind.{common_steps}
use Rattle.std.proofs.lemmas.List.{drop-drop, take_all}
use Rattle.std.proofs.lemmas.List.Splits.{slice_split_first, slice_split_none}
use Rattle.std.proofs.lemmas.List.Sums.{fails_before_first}
use Rattle.std.specs.List.{slice_split, position_or_len, position, before_first, after_first}
use Rattle.byte_search.specs.FirstByte.{found_at, past_end}

-- where a byte is found, the first part ends in front of it, and the others are those of what stands behind it
pub cut_found : (c place : ℕ) (xs front back rest : List ℕ) → Some place ≡ position (λ b. b == c) xs
    → front ≡ take place xs → back ≡ drop place xs → rest ≡ drop 1 back
    → slice_split (λ b. b == c) xs ≡ front ∷ slice_split (λ b. b == c) rest
cut_found c place xs front back rest found is_front is_back is_rest =
    let at = found_at c place xs found in
    let front_same : take (position_or_len (λ b. b == c) xs) xs ≡ front = rw (← at.0) (sym is_front) in
    let rest_same : drop (position_or_len (λ b. b == c) xs + 1) xs ≡ rest = rw (← at.0) (sym (drop-drop 1 place xs) ∙ ap (drop 1) (sym is_back) ∙ sym is_rest) in
    slice_split_first (λ b. b == c) xs 0 at.1 ∙ rw (front_same, rest_same)

past_last : (c : ℕ) (xs : List ℕ) → length xs ≤ position_or_len (λ b. b == c) xs → slice_split (λ b. b == c) xs ≡ xs ∷ []
past_last c xs past = slice_split_none (λ b. b == c) xs (λ k d within. fails_before_first (λ b. b == c) xs k d (omega arith))

-- where none is found, the list is the one part
pub cut_none : (c : ℕ) (xs : List ℕ) → None ≡ position (λ b. b == c) xs → slice_split (λ b. b == c) xs ≡ xs ∷ []
cut_none c xs found =
    elim (cases_Bool (nat_lt (position_or_len (λ b. b == c) xs) (length xs))) [
      | inl within ↦ absurd (let some = rw within at found in cc)
      | inr outside ↦ past_last c xs (grind (arith, nat_tests))
    ]

pub front_found : (c place : ℕ) (xs front : List ℕ) → Some place ≡ position (λ b. b == c) xs → front ≡ take place xs → front ≡ before_first (λ b. b == c) xs
front_found c place xs front found is_front = is_front ∙ ap (λ n. take n xs) (found_at c place xs found).0

pub behind_found : (c place : ℕ) (xs back rest : List ℕ) → Some place ≡ position (λ b. b == c) xs → back ≡ drop place xs → rest ≡ drop 1 back
    → rest ≡ after_first (λ b. b == c) xs
behind_found c place xs back rest found is_back is_rest =
    is_rest ∙ ap (drop 1) is_back ∙ drop-drop 1 place xs ∙ ap (λ n. drop (n + 1) xs) (found_at c place xs found).0

drop_whole : (n : ℕ) (xs : List ℕ) → length xs ≤ n → [] ≡ drop (n + 1) xs
drop_whole n xs past = grind (arith, common_steps)

pub front_none : (c : ℕ) (xs : List ℕ) → None ≡ position (λ b. b == c) xs → xs ≡ before_first (λ b. b == c) xs
front_none c xs found = sym (take_all (position_or_len (λ b. b == c) xs) xs (past_end c xs found))

pub behind_none : (c : ℕ) (xs : List ℕ) → None ≡ position (λ b. b == c) xs → [] ≡ after_first (λ b. b == c) xs
behind_none c xs found = drop_whole (position_or_len (λ b. b == c) xs) xs (past_end c xs found)
