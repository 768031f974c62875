-- The longest life of a product, by what look-ups find: the rows of reports are found by word.
use Rattle.std.specs.Prelude.{◌≡◌, ◌≢◌, ℕ, ◌≤◌, List, Some}
use Rattle.life_table.specs.Products.{text_product}
use Rattle.life_table.specs.LifeTable.{LifeTable, TextRow, RadarRow, text_row, radar_row}
use Rattle.life_table.specs.LifeTable.{longest}
use Rattle.life_table.specs.Rules.{IsTable}

-- a row of this product, as a look-up finds it, has this life
pub data IsLifeOf (table : LifeTable) (product life : ℕ) : Type 0 where
  of_text : (word : List ℕ) (row : TextRow) → product ≡ text_product
      → text_row table word ≡ Some row → row.life ≡ life
      → IsLifeOf table product life
  of_radar : (row : RadarRow) → product ≢ text_product → radar_row table product ≡ Some row
      → row.life ≡ life
      → IsLifeOf table product life

-- a row of this product has this life, and none a longer one
pub record IsLongest (table : LifeTable) (product life : ℕ) : Type 0 where
  pub attained : IsLifeOf table product life
  pub most : (other : ℕ) → IsLifeOf table product other → other ≤ life

-- a row of reports lives no longer than the longest life of text
abbrev pub TextsAreWithin : Type 0
TextsAreWithin = (table : LifeTable) (word : List ℕ) (row : TextRow)
    → text_row table word ≡ Some row
    → (life : ℕ) × (longest table text_product ≡ Some life) × (row.life ≤ life)

-- a row of radar, in a table that keeps the rules, lives no longer than the longest life of its
-- product
abbrev pub RadarsAreWithin : Type 0
RadarsAreWithin = (table : LifeTable) (product : ℕ) (row : RadarRow) → IsTable table
    → radar_row table product ≡ Some row
    → (life : ℕ) × (longest table product ≡ Some life) × (row.life ≤ life)
