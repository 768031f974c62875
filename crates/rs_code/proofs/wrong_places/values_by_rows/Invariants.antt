use Rattle.std.proofs.Common.{◌≡◌, ◌<◌, ℕ, take, get_or}
use Rattle.poly256.specs.Polynomial.{element_power, value_at}
use Rattle.rs_code.proofs.wrong_places.values_by_rows.Given as goal

-- the values of the coefficients so far
abbrev pub invariant-loop-power : goal.invariant-loop-power
invariant-loop-power l = (k : ℕ) → k < 96 → get_or l.values k 0 ≡ value_at (take l.power l.polynomial) (element_power 2 k)
