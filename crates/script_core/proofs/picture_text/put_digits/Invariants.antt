use Rattle.std.proofs.Common.{◌≡◌, ◌<◌, length, take}
use Rattle.radar_core.specs.Cells.{IsCells}
use Rattle.script_core.specs.Printed.{cell_digits}
use Rattle.script_core.proofs.picture_text.put_digits.Given as goal

-- the cells so far are written; what was looked at is the cells of a block
abbrev pub invariant-loop-place : goal.invariant-loop-place
invariant-loop-place l = record {
  room : length l.digits ≡ 128;
  written : take l.place l.digits ≡ cell_digits (take l.place l.cells);
  are : 0 < l.place → IsCells l.cells;
}
