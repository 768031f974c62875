use Rattle.std.proofs.Common.{◌<◌, take}
use Rattle.std.specs.List.{All}
use Rattle.radar_core.proofs.cells.Cells.new.Given as goal

abbrev pub invariant-loop-cell : goal.invariant-loop-cell
invariant-loop-cell l = All (λ cell. cell < 8) (take l.cell-index l.cell-items)
