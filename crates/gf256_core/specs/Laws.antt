-- A law of remainders.
use Rattle.std.specs.Prelude.{◌≡◌, ℕ}
use Rattle.gf256_core.specs.Field.{IsRemainder}

-- a number has one remainder by the modulus
abbrev pub HasOneRemainder : ℕ → Type 0
HasOneRemainder modulus =
    (a rest other : ℕ) → IsRemainder modulus a rest → IsRemainder modulus a other → rest ≡ other
