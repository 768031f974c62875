-- The cells of a block.
use Rattle.std.specs.Prelude.{◌≡◌, ℕ, ◌<◌, List, length, replicate, All}

-- 128 intensities from 0 to 7
pub record IsCells (cells : List ℕ) : Type 0 where
  pub count : length cells ≡ 128
  pub intensities : All (λ cell. cell < 8) cells

-- 128 cells of intensity 0
unfoldable pub blank_cells : List ℕ
blank_cells = replicate 128 0
