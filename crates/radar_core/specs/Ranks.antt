-- How many offsets a bitmap names below one.
use Rattle.std.specs.Prelude.{ℕ, ◌+◌, ◌*◌, ◌/◌, ◌==◌, if◌then◌else◌, List, slice_index, count_by}
use Rattle.std.specs.Int.{bit_at}
use Rattle.std.specs.List.{range_with_len}
use Rattle.radar_core.specs.Blanks.{is_named}

-- the bits that name offsets in a byte of a bitmap, with bit 3 of byte 0 for the base
abbrev pub names_at : List ℕ → ℕ → ℕ
names_at bitmap place = if place == 0 then slice_index bitmap place / 16 * 16 + 8
    else slice_index bitmap place

-- how many bits are set in a byte below a place
unfoldable pub ones_below : ℕ → ℕ → ℕ
ones_below byte place = count_by (λ bit. bit_at byte bit == 1) (range_with_len 0 place)

-- how many offsets a bitmap names below one
unfoldable pub rank_of : List ℕ → ℕ → ℕ
rank_of bitmap offset = count_by (is_named bitmap) (range_with_len 0 offset)
