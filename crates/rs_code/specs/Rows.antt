-- The words of the contracts about tables of rows.
use Rattle.std.specs.Prelude.{◌≡◌, ℕ, ◌+◌, ◌*◌, ◌^◌, ◌<◌, List, slice_index, bit_xor}
use Rattle.poly256.specs.Polynomial.{element_product, element_power}

-- from a place of a table on a row of this width stands eight times, times 1, 2, 4 and so on up
-- to 128
abbrev pub HasBitRows : ℕ → List ℕ → ℕ → Type 0
HasBitRows width table start =
    (bit k : ℕ) → bit < 8 → k < width
    → slice_index table (start + width * bit + k)
    ≡ element_product (2 ^ bit) (slice_index table (start + k))

-- the first bytes of a list are those of another, and to each a term is added
abbrev pub HasAdded : ℕ → List ℕ → List ℕ → (ℕ → ℕ) → Type 0
HasAdded count old new term =
    (k : ℕ) → k < count → slice_index new k ≡ bit_xor (slice_index old k) (term k)

-- an element times a byte of a row
abbrev pub row_times : ℕ → List ℕ → ℕ → ℕ → ℕ
row_times factor table start k = element_product factor (slice_index table (start + k))

-- an element times a power of 2
abbrev pub power_times : ℕ → (ℕ → ℕ) → ℕ → ℕ
power_times factor exponent k = element_product factor (element_power 2 (exponent k))
