-- The answer of a search for a byte is the place of the first such byte, as `position` tells it.
use Rattle.std.proofs.Common.{◌≡◌, ◌==◌, ℕ, ◌<◌, ◌≤◌, nat_lt, true, false, List, Option, Some, None}
use Rattle.std.proofs.Common.{slice_index, length, refl, sym, ap, arith, inl, inr}
use Rattle.std.specs.List.{position, position_or_len}
use Rattle.std.proofs.lemmas.Bool.{cases_Bool}
use Rattle.std.proofs.lemmas.Bool.Decides.{nat_tests}
use Rattle.std.proofs.lemmas.List.Sums.{position_or_len_is}
use Rattle.memchr.specs.Find.{IsFirstByte, is_byte}

pub first_byte : (c : ℕ) (xs : List ℕ) (found : Option ℕ) → IsFirstByte (is_byte c) xs found
    → found ≡ position (λ b. b == c) xs
first_byte c xs None none =
    let at = position_or_len_is (λ b. b == c) xs (length xs) 0 (omega arith)
    (λ k within. elim (cases_Bool (slice_index xs k == c)) [
      | inl here ↦ absurd (none k (omega arith) within here)
      | inr not_here ↦ not_here
    ]) (λ past. absurd (omega (arith, past))) in
    let test : nat_lt (position_or_len (λ b. b == c) xs) (length xs) ≡ false =
    grind (arith, nat_tests) in
    rw test refl
first_byte c xs (Some place) found =
    let within = found.0.high in
    let at = position_or_len_is (λ b. b == c) xs place 0 (omega (arith, within))
    (λ k before. elim (cases_Bool (slice_index xs k == c)) [
      | inl here ↦ absurd (found.0.before k (omega arith) before here)
      | inr not_here ↦ not_here
    ]) (λ inside. found.1) in
    let test : nat_lt (position_or_len (λ b. b == c) xs) (length xs) ≡ true =
    grind (arith, nat_tests) in
    rw test (ap Some (sym at))

-- where one is found, it stands where `position` says
pub found_at : (c place : ℕ) (xs : List ℕ) → Some place ≡ position (λ b. b == c) xs
    → (place ≡ position_or_len (λ b. b == c) xs) × (position_or_len (λ b. b == c) xs < length xs)
found_at c place xs found =
    elim (cases_Bool (nat_lt (position_or_len (λ b. b == c) xs) (length xs))) [
      | inl within ↦ (let same = rw within at found in cc, grind (arith, nat_tests))
      | inr outside ↦ absurd (let none = rw outside at found in cc)
    ]

-- where none is found, the place is past the end
pub past_end : (c : ℕ) (xs : List ℕ) → None ≡ position (λ b. b == c) xs
    → length xs ≤ position_or_len (λ b. b == c) xs
past_end c xs found =
    elim (cases_Bool (nat_lt (position_or_len (λ b. b == c) xs) (length xs))) [
      | inl within ↦ absurd (let some = rw within at found in cc)
      | inr outside ↦ grind (arith, nat_tests)
    ]
