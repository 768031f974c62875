use Rattle.std.proofs.Common.{◌≡◌, ◌<◌, ◌≤◌, length, drop}
use Rattle.poly256.specs.Polynomial.{value_at}
use Rattle.rs_code.proofs.wrong_places.value_of.Given as goal

-- the value of the coefficients from `power` on
abbrev pub invariant-loop-power : goal.invariant-loop-power
invariant-loop-power l = record {
  within : l.power ≤ length l.polynomial;
  fits : l.value < 256;
  here : l.value ≡ value_at (drop l.power l.polynomial) l.point;
}

abbrev pub decreases-loop-power : goal.decreases-loop-power
decreases-loop-power l = l.power
