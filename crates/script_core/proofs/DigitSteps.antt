-- What decimal digits spell, a digit at a time.
use Rattle.std.proofs.Common.{◌≡◌, ℕ, ◌+◌, ◌-◌, ◌*◌, ◌<◌, ◌≤◌, false, List, [], ◌∷◌, None, length, take, drop, get_or, ap, arith, fold}
use Rattle.std.proofs.lemmas.Bool.Decides.{nat_tests}
use Rattle.std.proofs.lemmas.Grind.{fold-append}
use Rattle.std.proofs.lemmas.List.{take-append-drop}
use Rattle.std.proofs.lemmas.List.Folds.{list_all_at}
use Rattle.std.specs.Char.{is_ascii_digit}
use Rattle.script_core.specs.Fields.{number_within, digits_value}

abbrev next_value : ℕ → ℕ → ℕ
next_value value digit = 10 * value + (digit - 48)

grows : (value : ℕ) (digits : List ℕ) → value ≤ fold next_value value digits
grows value [] = omega arith
grows value (digit ∷ digits) = let more = grows (10 * value + (digit - 48)) digits in omega (arith, more)

-- a front of some digits spells no greater number
pub front_value : (place : ℕ) (digits : List ℕ) → digits_value (take place digits) ≤ digits_value digits
front_value place digits =
    let joined = fold-append next_value 0 (take place digits) (drop place digits) in
    let whole = ap (fold next_value 0) (take-append-drop place digits) in
    let more = grows (digits_value (take place digits)) (drop place digits) in
    omega (arith, joined, whole, more)

-- no number above the highest one is read
pub number_above : (low high : ℕ) (field : List ℕ) → high < digits_value field → None ≡ number_within low high field
number_above low high field above = grind (arith, nat_tests)

-- a byte that is no digit spells no number
pub number_without_digit : (low high place : ℕ) (field : List ℕ) → place < length field → is_ascii_digit (get_or field place 0) ≡ false → None ≡ number_within low high field
number_without_digit low high place field within no_digit =
    let fails = list_all_at is_ascii_digit field place 0 within no_digit in
    grind (arith, nat_tests)
