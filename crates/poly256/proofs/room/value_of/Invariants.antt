use Rattle.std.proofs.Common.{◌≡◌, ◌<◌, ◌≤◌, length, drop}
use Rattle.poly256.specs.Polynomial.{value_at}
use Rattle.poly256.proofs.room.value_of.Given as goal

-- the value of the coefficients from `power` on
abbrev pub invariant-loop-power : goal.invariant-loop-power
invariant-loop-power l =
    (l.power ≤ length l.list) × (l.value < 256) × (l.value ≡ value_at (drop l.power l.list) l.at)

abbrev pub decreases-loop-power : goal.decreases-loop-power
decreases-loop-power l = l.power
