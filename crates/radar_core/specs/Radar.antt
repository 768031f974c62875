-- What a payload of product 63 or 64 says (RTCA DO-358), and the first reason why it says nothing.
use Rattle.std.specs.Prelude.{ℕ, ◌==◌, nat_lt, nat_le, if◌then◌else◌, List, [], ◌∷◌, length, take}
use Rattle.std.specs.Prelude.{drop, map, Result, Ok, Err}
use Rattle.radar_core.specs.declared.key.BlockKey.{BlockKey}
use Rattle.radar_core.specs.declared.fault.RadarFault.{RadarFault}
use Rattle.radar_core.specs.declared.fault.RadarFault.TheVariants.{Short, BadScale, RunsNot128}
use Rattle.radar_core.specs.declared.fault.RadarFault.TheVariants.{HighEmpty, BadBitmap}
use Rattle.radar_core.specs.Keys.{is_run_in, scale_in, key_in, first_high}
use Rattle.radar_core.specs.Cells.{blank_cells}
use Rattle.radar_core.specs.Runs.{cells_in}
use Rattle.radar_core.specs.Blanks.{block_in_ring, bitmap_length, named_offsets, key_beside}

-- a block: its key and its cells
abbrev pub Block : Type 0
Block = BlockKey × List ℕ

-- the block of a run record
abbrev pub run_blocks : BlockKey → List ℕ → List Block
run_blocks key runs = (key, cells_in runs) ∷ []

-- the blocks that a bitmap names beside a base: their cells have intensity 0
abbrev pub blank_block : BlockKey → ℕ → Block
blank_block base offset = (key_beside base (block_in_ring base.number offset), blank_cells)

abbrev pub named_blocks : BlockKey → List ℕ → List Block
named_blocks base bitmap = map (blank_block base) (named_offsets bitmap)

-- the blocks of the bytes after the front. Bytes after the bitmap are not looked at
abbrev pub read_runs : BlockKey → List ℕ → Result (List Block) RadarFault
read_runs key runs = if length (cells_in runs) == 128 then Ok (run_blocks key runs)
    else Err RunsNot128

abbrev pub read_bitmap : BlockKey → List ℕ → Result (List Block) RadarFault
read_bitmap base bytes = if nat_le first_high base.number then Err HighEmpty
    else (if nat_lt (length bytes) (bitmap_length bytes) then Err BadBitmap
    else Ok (named_blocks base (take (bitmap_length bytes) bytes)))

-- the blocks of a payload, or the first fault. `Spelling` says which blocks they are without
-- looking for a field
unfoldable pub radar_blocks : ℕ → List ℕ → Result (List Block) RadarFault
radar_blocks product payload = if nat_lt (length payload) 4 then Err Short
    else (if scale_in payload == 3 then Err BadScale
    else (if is_run_in payload then read_runs (key_in product payload) (drop 3 payload)
    else read_bitmap (key_in product payload) (drop 3 payload)))

-- the blocks of these numbers beside a base, of intensity 0
abbrev pub blank_blocks : BlockKey → List ℕ → List Block
blank_blocks base numbers = map (λ number. (key_beside base number, blank_cells)) numbers
