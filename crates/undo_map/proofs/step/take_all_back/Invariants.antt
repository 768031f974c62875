use Rattle.std.proofs.Common.{◌≡◌}
use Rattle.std.specs.BTreeMap.{IsOrdered}
use Rattle.std.specs.Vec.{vec_len}
use Rattle.undo_map.specs.Steps.{before_all}
use Rattle.undo_map.proofs.step.take_all_back.Given as goal

abbrev pub invariant-loop-step : goal.invariant-loop-step
invariant-loop-step g l = record {
  back :
      before_all g.K.Ord.cmp l.steps.items l.entries.entries
      ≡ before_all g.K.Ord.cmp l.initial.steps.items l.initial.entries.entries;
  ordered : IsOrdered g.K.Ord.cmp l.entries;
}

abbrev pub decreases-loop-step : goal.decreases-loop-step
decreases-loop-step g l = vec_len l.steps
