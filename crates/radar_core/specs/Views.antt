-- What a part of a payload stands for.
use Rattle.std.specs.Prelude.{◌≡◌, ◌<◌, ◌≤◌, List, length}
use Rattle.radar_core.specs.Keys.{first_high}
use Rattle.radar_core.specs.declared.key.BlockKey.{BlockKey}
use Rattle.radar_core.specs.declared.part.Body.{Body}
use Rattle.radar_core.specs.declared.part.Body.TheVariants.{Runs, Bitmap}
use Rattle.radar_core.specs.Runs.{cells_in}
use Rattle.radar_core.specs.Radar.{Block, run_blocks, named_blocks}

-- the blocks of a record of this key
abbrev pub part_blocks : BlockKey → Body → List Block
part_blocks key (Runs runs) = run_blocks key runs.now
part_blocks key (Bitmap bitmap) = named_blocks key bitmap.now

-- the runs are 128 cells; a bitmap has at most 15 bytes, and its base a ring
abbrev pub IsBody : BlockKey → Body → Type 0
IsBody key (Runs runs) = length (cells_in runs.now) ≡ 128
IsBody key (Bitmap bitmap) = (length bitmap.now ≤ 15) × (key.number < first_high)
