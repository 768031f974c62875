use Rattle.std.proofs.Common.{ℕ, ◌<◌, List, subst, arith}
use Rattle.std.specs.List.{All}
use Rattle.std.proofs.lemmas.List.{take_all}
use Rattle.std.proofs.lemmas.List.Elements.{All-more}
use Rattle.radar_core.proofs.cells.Cells.new.Goals as goal

pub loop-cell-preserved : goal.loop-cell-preserved
loop-cell-preserved c =
    All-more (λ cell. cell < 8) c.args.cells c.loop-cell.cell-index 0 (omega arith) c.loop-cell.invariant (omega arith)

pub of-requires : goal.of-requires
of-requires c =
    subst (λ (cells : List ℕ). All (λ cell. cell < 8) cells) (take_all c.loop-cell.cell-index c.args.cells (omega arith)) c.loop-cell.invariant
