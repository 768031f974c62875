use Rattle.std.proofs.Common.{◌≡◌, ◌≤◌, ◌<◌, ◌-◌, ◌++◌, ℕ, List, length, take, get_or}
use Rattle.poly256.specs.Polynomial.{element_power, value_at}
use Rattle.rs_code.specs.Mending.{zero_places}
use Rattle.rs_code.proofs.wrong_places.find_zeros.Given as goal

-- the places found and those that are left are all
abbrev pub invariant-loop-i : goal.invariant-loop-i
invariant-loop-i g l = record {
  long : length l.places ≡ g.row.N;
  within : l.found ≤ l.i;
  all : (polynomial : List ℕ) → ((k : ℕ) → k < g.row.N → get_or l.values k 0 ≡ value_at polynomial (element_power 2 k))
      → take l.found l.places ++ zero_places polynomial (g.row.N - l.i) ≡ zero_places polynomial g.row.N;
}
