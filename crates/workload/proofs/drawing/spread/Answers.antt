-- One cell after another.
use Rattle.std.proofs.Common.{arith, refl, ◌/◌, ◌<◌, get_or, length}
use Rattle.std.proofs.Math.ListN.{length-set}
use Rattle.workload.proofs.drawing.spread.Goals as goal
use Rattle.workload.proofs.CellLemmas.{cells-more, cells_of-whole}

pub loop-place-preserved : goal.loop-place-preserved
loop-place-preserved c =
    let inside : c.loop-place.place < length c.loop-place.cells = omega (arith, c.loop-place.invariant.0) in (
      omega (arith, length-set c.loop-place.cells c.loop-place.place (get_or c.args.intensities.now (c.loop-place.place / 8) 0)),
      cells-more (λ cell. get_or c.args.intensities.now (cell / 8) 0) c.loop-place.cells c.loop-place.place
          (get_or c.args.intensities.now (c.loop-place.place / 8) 0) inside refl c.loop-place.invariant.1,
    )

pub returns : goal.returns
returns c =
    cells_of-whole c.args.intensities.now c.loop-place.cells c.loop-place.place c.loop-place.invariant.0 (omega arith) c.loop-place.invariant.1
