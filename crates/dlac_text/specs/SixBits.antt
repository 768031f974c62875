-- Six-bit codes in bytes, highest bit first: four codes in three bytes. `SixBitFields` says in bits
-- what they are, and a law that they are the same.
use Rattle.std.specs.Prelude.{ℕ, ◌+◌, ◌*◌, ◌/◌, ◌%◌, List, [], ◌∷◌}

-- the bytes of some codes; zero bits fill the last byte
abbrev pub packed_bytes : List ℕ → List ℕ
packed_bytes [] = []
packed_bytes (a ∷ []) = (a * 4) ∷ []
packed_bytes (a ∷ b ∷ []) = (a * 4 + b / 16) ∷ (b % 16 * 16) ∷ []
packed_bytes (a ∷ b ∷ c ∷ []) = (a * 4 + b / 16) ∷ (b % 16 * 16 + c / 4) ∷ (c % 4 * 64) ∷ []
packed_bytes (a ∷ b ∷ c ∷ d ∷ more) =
    (a * 4 + b / 16) ∷ (b % 16 * 16 + c / 4) ∷ (c % 4 * 64 + d) ∷ packed_bytes more

-- the six-bit groups of some bytes; a rest of two or four bits is left out
abbrev pub six_bit_groups : List ℕ → List ℕ
six_bit_groups [] = []
six_bit_groups (x ∷ []) = (x / 4) ∷ []
six_bit_groups (x ∷ y ∷ []) = (x / 4) ∷ (x % 4 * 16 + y / 16) ∷ []
six_bit_groups (x ∷ y ∷ z ∷ more) =
    (x / 4) ∷ (x % 4 * 16 + y / 16) ∷ (y % 16 * 4 + z / 64) ∷ (z % 64) ∷ six_bit_groups more
