use Rattle.std.proofs.Common.{◌≡◌, ◌*◌, ◌≤◌, length, take}
use Rattle.radar_core.specs.Runs.{cells_in}
use Rattle.radar_core.proofs.reading.count_cells.Given as goal

abbrev pub invariant-loop-run : goal.invariant-loop-run
invariant-loop-run l = record { is : l.count ≡ length (cells_in (take l.run-index l.runs)); most : l.count ≤ 32 * l.run-index }
