use Rattle.std.proofs.Common.{◌-◌, length}
use Rattle.poly256.proofs.Derivatives.{Differentiates}
use Rattle.poly256.proofs.room.write_derivative.Given as goal

abbrev pub invariant-loop-power : goal.invariant-loop-power
invariant-loop-power l = Differentiates l.room l.list l.power

abbrev pub decreases-loop-power : goal.decreases-loop-power
decreases-loop-power l = length l.list - l.power
