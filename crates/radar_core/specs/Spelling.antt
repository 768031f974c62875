-- Which blocks a payload spells, as the format states it (RTCA DO-358): no field is looked for
-- here.
use Rattle.std.specs.Prelude.{◌≡◌, ℕ, ◌+◌, ◌*◌, ◌<◌, ◌≤◌, ◌↔◌, true, false, List, [], ◌∷◌, ◌++◌}
use Rattle.std.specs.Prelude.{length, take, map, flat_map, slice_index, All, Contains, Ok}
use Rattle.std.specs.Int.{bit_at}
use Rattle.std.specs.List.Sorted.{IsStrictlyIncreasing}
use Rattle.bit_fields.specs.Bits.{AreBytes, as_number}
use Rattle.radar_core.specs.declared.key.BlockKey.{BlockKey}
use Rattle.radar_core.specs.declared.run.Run.{Run}
use Rattle.radar_core.specs.Keys.{FitsKey, front_bytes, first_high}
use Rattle.radar_core.specs.Cells.{IsCells}
use Rattle.radar_core.specs.Runs.{FitsRun, run_byte, run_cells}
use Rattle.radar_core.specs.Radar.{Block, blank_block, radar_blocks}

-- the payload is a run record of this key: runs of 128 cells stand after the front
pub record SpellsRuns (key : BlockKey) (payload : List ℕ) (blocks : List Block) : Type 0 where
  pub runs : List Run
  pub fit : All FitsRun runs
  pub count : length (flat_map run_cells runs) ≡ 128
  pub bytes : payload ≡ front_bytes true key ++ map run_byte runs
  pub blocks_are : blocks ≡ (key, flat_map run_cells runs) ∷ []

-- a bitmap names offset 0, and by bit j of its byte i the offset 8 i + j - 3, where that is above 0
pub data Names (bitmap : List ℕ) (offset : ℕ) : Type 0 where
  base : offset ≡ 0 → Names bitmap offset
  further : (place bit : ℕ) → place < length bitmap → bit < 8 → 1 ≤ offset → offset + 3 ≡ 8 * place
      + bit
      → bit_at (slice_index bitmap place) bit ≡ 1 → Names bitmap offset

-- the payload is an empty record of this base: after the front stand a bitmap of as many bytes as
-- the low four bits of the first byte say, and any others. The blocks are those of the named
-- offsets, which rise
pub record SpellsBitmap (base : BlockKey) (payload : List ℕ) (blocks : List Block) : Type 0 where
  pub ring : base.number < first_high
  pub bitmap : List ℕ
  pub others : List ℕ
  pub high : ℕ
  pub size : length bitmap < 16
  pub first : take 1 (bitmap ++ others)
      ≡ as_number 0 (record { width = 4; number = high }
      ∷ record { width = 4; number = length bitmap }
      ∷ []) ∷ []
  pub bytes : payload ≡ front_bytes false base ++ (bitmap ++ others)
  pub offsets : List ℕ
  pub rise : IsStrictlyIncreasing offsets
  pub exactly : (offset : ℕ) → Contains offsets offset ↔ Names bitmap offset
  pub blocks_are : blocks ≡ map (blank_block base) offsets

-- the payload spells these blocks
pub data SpellsBlocks (product : ℕ) (payload : List ℕ) (blocks : List Block) : Type 0 where
  of_runs : (key : BlockKey) → FitsKey key → key.product ≡ product → SpellsRuns key payload blocks
      → SpellsBlocks product payload blocks
  of_bitmap : (base : BlockKey) → FitsKey base → base.product ≡ product
      → SpellsBitmap base payload blocks
      → SpellsBlocks product payload blocks

-- a payload is read as blocks exactly where it spells blocks, and as those
abbrev pub BlocksAreSpelled : Type 0
BlocksAreSpelled = (product : ℕ) (payload : List ℕ) (blocks : List Block) → AreBytes payload
    → (radar_blocks product payload ≡ Ok blocks) ↔ SpellsBlocks product payload blocks

-- a block of this product: its key fits, and it has 128 intensities
pub record IsBlockOf (product : ℕ) (block : Block) : Type 0 where
  pub product_is : block.0.product ≡ product
  pub fits : FitsKey block.0
  pub cells : IsCells block.1

-- each block that a payload spells is one
abbrev pub SpelledBlocksFit : Type 0
SpelledBlocksFit =
    (product : ℕ) (payload : List ℕ) (blocks : List Block) → SpellsBlocks product payload blocks
    → All (IsBlockOf product) blocks
