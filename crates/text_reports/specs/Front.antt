-- The front of a word as a number, by which most words are told apart.
use Rattle.std.specs.Prelude.{ℕ, zero, suc, ◌+◌, ◌*◌, ◌^◌, List, [], ◌∷◌}

-- the number that the first so many bytes write to the base 256; zeros stand for those that are
-- missing
abbrev pub front_number : ℕ → List ℕ → ℕ
front_number zero word = 0
front_number (suc n) [] = 0
front_number (suc n) (byte ∷ more) = byte * 256 ^ n + front_number n more
