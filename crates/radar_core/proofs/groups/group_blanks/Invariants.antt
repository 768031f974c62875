use Rattle.std.proofs.Common.{length, map}
use Rattle.radar_core.proofs.GroupLemmas.{IsCut}
use Rattle.radar_core.proofs.groups.group_blanks.Given as goal

abbrev pub invariant-loop-left : goal.invariant-loop-left
invariant-loop-left l = IsCut (map (λ group. group.items) l.groups.items) l.left l.numbers

abbrev pub decreases-loop-left : goal.decreases-loop-left
decreases-loop-left l = length l.left
