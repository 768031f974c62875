-- A number made of a place.
use Rattle.std.specs.Prelude.{ℕ, ◌+◌, ◌*◌, ◌%◌, ◌^◌, List, fold}

-- the bytes as the digits of a number to the base 31, by the last 64 bits
abbrev pub place_number : List ℕ → ℕ
place_number place = fold (λ number byte. (number * 31 % 2 ^ 64 + byte) % 2 ^ 64) 0 place
