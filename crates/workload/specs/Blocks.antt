-- The cells of a block that is given.
use Rattle.std.specs.Prelude.{ℕ, ◌/◌, List, map, slice_index}
use Rattle.std.specs.List.{range_with_len}

-- the 128 cells of sixteen intensities: the t-th of them, counted from 0, is that of the cells 8t
-- to 8t + 7
unfoldable pub cells_of : List ℕ → List ℕ
cells_of intensities = map (λ cell. slice_index intensities (cell / 8)) (range_with_len 0 128)
