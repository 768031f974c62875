use Rattle.radar_core.proofs.RunCells.{IsPut}
use Rattle.radar_core.proofs.part.cells_of.Given as goal

abbrev pub invariant-loop-run : goal.invariant-loop-run
invariant-loop-run l = IsPut l.runs l.room l.run-index l.used
