-- Empty records: after the front, a bitmap of the blocks that are named beside the base.
use Rattle.std.specs.Prelude.{◌≡◌, ℕ, ◌+◌, ◌-◌, ◌*◌, ◌/◌, ◌%◌, ◌≤◌, Bool, false, ◌||◌, ◌==◌, List}
use Rattle.std.specs.Prelude.{[], ◌∷◌, ◌++◌, length, take, map, filter, slice_index, All}
use Rattle.std.specs.Int.{bit_at}
use Rattle.std.specs.List.{list_any, range_with_len}
use Rattle.std.specs.List.Sorted.{IsStrictlyIncreasing}
use Rattle.bit_fields.specs.Bits.{Field, as_number, field_at}
use Rattle.radar_core.specs.declared.key.BlockKey.{BlockKey}
use Rattle.bit_fields.specs.Bits.{bit}
use Rattle.radar_core.specs.Keys.{front_bytes}

-- rings have 450 blocks each; the block at this offset from a base, in the base's ring
abbrev pub block_in_ring : ℕ → ℕ → ℕ
block_in_ring base offset = let start = base - base % 450 in start + (base - start + offset) % 450

-- how many bytes the bitmap has: the low four bits of its first byte
abbrev pub bitmap_length : List ℕ → ℕ
bitmap_length bitmap = field_at (take 1 bitmap) 4 4

-- whether a bitmap names an offset. The base, offset 0, is always named. Byte i names by its bit j,
-- the lowest bit 0, the offset 8 i + j - 3; of byte 0 the bits 4 to 7 do, since the others are the
-- length
abbrev pub is_named : List ℕ → ℕ → Bool
is_named bitmap offset =
    (offset == 0) || (bit_at (slice_index bitmap ((offset + 3) / 8)) ((offset + 3) % 8) == 1)

-- the offsets that a bitmap names; the greatest that it can name is 116
unfoldable pub named_offsets : List ℕ → List ℕ
named_offsets bitmap = filter (is_named bitmap) (range_with_len 0 117)

-- the key beside a base, with another number
abbrev pub key_beside : BlockKey → ℕ → BlockKey
key_beside base number =
    record { product = base.product; scale = base.scale; south = base.south; number = number }

-- blocks that one record can name: they rise, and lie in the ring of the first, at most 116 above
-- it
pub record IsGroup (base : ℕ) (further : List ℕ) : Type 0 where
  pub rises : IsStrictlyIncreasing (base ∷ further)
  pub near : All (λ number. number ≤ base + 116) further
  pub in_ring : All (λ number. number / 450 ≡ base / 450) further

-- how many bytes a bitmap has that holds the offset of the last of these numbers: bit o + 3 of the
-- bitmap is offset o
abbrev pub length_for : ℕ → List ℕ → ℕ
length_for base further = (slice_index (base ∷ further) (length further) - base + 3) / 8 + 1

-- one bit that says whether the block at this offset from the base is among these
abbrev pub mark : ℕ → List ℕ → ℕ → Field
mark base further offset =
    record { width = 1; number = bit (list_any (λ number. number == base + offset) further) }

-- the bytes of the bitmap: the bits of the offsets 4 to 1 before the four bits of the length, and
-- then eight offsets a byte
abbrev pub first_bitmap_byte : ℕ → List ℕ → ℕ
first_bitmap_byte base further =
    as_number 0 (mark base further 4 ∷ mark base further 3 ∷ mark base further 2
    ∷ mark base further 1
    ∷ record { width = 4; number = length_for base further } ∷ [])

abbrev pub bitmap_byte : ℕ → List ℕ → ℕ → ℕ
bitmap_byte base further place =
    let low = 8 * place - 3 in as_number 0 (mark base further (low + 7)
    ∷ mark base further (low + 6)
    ∷ mark base further (low + 5) ∷ mark base further (low + 4) ∷ mark base further (low + 3)
    ∷ mark base further (low + 2)
    ∷ mark base further (low + 1) ∷ mark base further low ∷ [])

abbrev pub bitmap_of : ℕ → List ℕ → List ℕ
bitmap_of base further = first_bitmap_byte base further
    ∷ map (bitmap_byte base further) (range_with_len 1 (length_for base further - 1))

-- the empty record of a base and of further blocks of its ring
unfoldable pub blank_record : BlockKey → List ℕ → List ℕ
blank_record base further = front_bytes false base ++ bitmap_of base.number further
