use Rattle.std.proofs.Common.{◌≡◌, ℕ, ◌<◌, true, get_or}
use Rattle.radar_core.specs.Groups.{is_joined}
use Rattle.radar_core.proofs.groups.group_length.Given as goal

abbrev pub invariant-loop-place : goal.invariant-loop-place
invariant-loop-place l = record {
  joined : (k : ℕ) → k < l.place → is_joined l.base (get_or l.numbers k 0) ≡ true;
  base_is : l.base ≡ get_or l.numbers 0 0;
}
