use Rattle.std.proofs.Common.{◌≡◌, ◌<◌, ◌≤◌, length}
use Rattle.rs_code.specs.Mending.{IsLocator, IsEarlier}
use Rattle.rs_code.proofs.locator.find_locator.Given as goal

abbrev pub invariant-loop-at : goal.invariant-loop-at
invariant-loop-at g l = record {
  locator : IsLocator l.locator l.sums l.degree l.at;
  earlier : IsEarlier l.earlier l.sums l.degree l.last;
  some : 0 < l.last;
  long : length l.locator ≡ g.row.N;
  degree : l.degree ≤ l.at;
}
