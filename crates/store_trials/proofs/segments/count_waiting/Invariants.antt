use Rattle.std.proofs.Common.{◌≡◌, Some}
use Rattle.store_trials.proofs.segments.count_waiting.Given as goal

abbrev pub invariant-loop-index : goal.invariant-loop-index
invariant-loop-index l = l.joiner.store.clock ≡ Some l.now
