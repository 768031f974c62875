use Rattle.std.proofs.Common.{◌+◌, ap, arith}
use Rattle.radar_core.proofs.RunCells.{length-cells_in-take, put_more}
use Rattle.radar_core.proofs.part.cells_of.Goals as goal

pub put_longest-requires : goal.put_longest-requires
put_longest-requires c =
    omega (arith, c.requires, length-cells_in-take c.args.runs.now c.loop-run.run-index, c.loop-run.invariant.used_is)

pub loop-run-preserved : goal.loop-run-preserved
loop-run-preserved c =
    let i = c.loop-run.run-index in
    let runs = c.args.runs.now in
    put_more runs c.loop-run.room c.put_longest.new.room i c.loop-run.used (c.from.result + 1)
    (ap (λ n. n + 1) c.from.ensures) (omega arith) (omega (arith, c.type_inv.runs i))
    c.requires c.put_longest.array_long c.loop-run.invariant c.put_longest.ensures
