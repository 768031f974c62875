-- The texts of reports.
use Rattle.std.specs.Prelude.{ℕ, ◌+◌, ◌/◌, ◌%◌, List, [], ◌∷◌, ◌++◌, codes, flat_map}

-- the last digit of a number
abbrev pub digit : ℕ → ℕ
digit number = 48 + number % 10

abbrev pub two_digits : ℕ → List ℕ
two_digits number = digit (number / 10) ∷ digit number ∷ []

-- five digits, with leading zeros
abbrev pub five_digits : ℕ → List ℕ
five_digits number =
    digit (number / 10000) ∷ digit (number / 1000) ∷ digit (number / 100) ∷ digit (number / 10)
    ∷ digit number ∷ []

-- a word: a space and five digits
abbrev pub word : ℕ → List ℕ
word number = codes " " ++ five_digits number

-- a report of a kind, of the station `K`, two digits and `X`, with these words
abbrev pub report : List ℕ → ℕ → List ℕ → List ℕ
report kind station numbers =
    kind ++ codes " K" ++ two_digits station ++ codes "X" ++ flat_map word numbers
