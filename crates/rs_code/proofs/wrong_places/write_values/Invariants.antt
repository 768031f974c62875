use Rattle.std.proofs.Common.{◌≡◌, ◌<◌, ℕ, length, get_or}
use Rattle.poly256.specs.Polynomial.{element_power, value_at}
use Rattle.rs_code.proofs.wrong_places.write_values.Given as goal

abbrev pub invariant-loop-place : goal.invariant-loop-place
invariant-loop-place g l = record {
  long : length l.values ≡ g.row.N;
  written : (k : ℕ) → k < l.place → get_or l.values k 0 ≡ value_at l.polynomial (element_power 2 k);
}
