use Rattle.std.proofs.Common.{◌≡◌, ◌+◌, length}
use Rattle.rs_code.specs.Mending.{IsLocator}
use Rattle.rs_code.proofs.locator.lengthen.Given as goal

abbrev pub invariant-loop-place : goal.invariant-loop-place
invariant-loop-place g l = record {
  long : length l.next ≡ g.row.N;
  locator : IsLocator l.next l.sums (l.at + 1) l.place;
}
