use Rattle.std.proofs.Common.{◌≡◌, ◌<◌, ℕ, length, get_or}
use Rattle.poly256.specs.Polynomial.{element_power}
use Rattle.rs_code.proofs.wrong_places.write_points.Given as goal

abbrev pub invariant-loop-i : goal.invariant-loop-i
invariant-loop-i g l = record {
  long : length l.points ≡ g.row.N;
  written : (k : ℕ) → k < l.i → get_or l.points k 0 ≡ element_power 2 (get_or l.places k 0);
}
