-- The bits of a bitmap while it is written.
use Rattle.std.specs.Prelude.{ℕ, ◌+◌, ◌*◌, Bool, false, ◌==◌, List}
use Rattle.std.specs.List.{list_any, slice_index_or}
use Rattle.bit_fields.specs.Bits.{bit}

-- whether a bit names one of these numbers beside a base: bit o + 3 is offset o
abbrev pub is_marked : ℕ → List ℕ → ℕ → Bool
is_marked base further place = list_any (λ number. number + 3 == base + place) further

-- four bits from a place on, the first one lowest
abbrev pub bit_of : List Bool → ℕ → ℕ
bit_of bits place = bit (slice_index_or bits place false)

abbrev pub four_bits : List Bool → ℕ → ℕ
four_bits bits place = bit_of bits place + 2 * bit_of bits (place + 1) + 4 * bit_of bits (place + 2)
    + 8 * bit_of bits (place + 3)
