use Rattle.std.proofs.Common.{arith}
use Rattle.poly256.proofs.Derivatives.{derivative_init, derivative_step, derivative_end}
use Rattle.poly256.proofs.room.write_derivative.Goals as goal

pub loop-power-init : goal.loop-power-init
loop-power-init c = derivative_init c.args.room.now c.args.list.now c.requires.zeros

pub loop-power-preserved : goal.loop-power-preserved
loop-power-preserved c =
    derivative_step c.loop-power.room c.args.list.now c.loop-power.power c.loop-power.invariant (omega arith) (omega arith)

pub returns : goal.returns
returns c = derivative_end c.loop-power.room c.args.list.now c.loop-power.power c.loop-power.invariant (omega arith)
