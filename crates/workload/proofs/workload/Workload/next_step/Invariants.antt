-- Nothing was handed out yet, and each step comes nearer to the end.
use Rattle.std.proofs.Common.{◌≡◌}
use Rattle.workload.specs.Progress.{IsSound, still_to_come, distance}
use Rattle.workload.proofs.workload.Workload.next_step.Given as goal

abbrev pub invariant-loop-self : goal.invariant-loop-self
invariant-loop-self l = IsSound l.self-inside.progress × (l.fn.self ≡ still_to_come l.self-inside.progress)

abbrev pub decreases-loop-self : goal.decreases-loop-self
decreases-loop-self l = distance l.self-inside.progress
