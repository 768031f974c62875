use Rattle.std.proofs.Common.{◌≡◌}
use Rattle.std.specs.BTreeMap.{IsOrdered}
use Rattle.std.specs.Vec.Iter.{into_iter_items}
use Rattle.undo_map.specs.Marked.{with_all}
use Rattle.undo_map.specs.Steps.{before_all}
use Rattle.undo_map.proofs.step.write_steps.Given as goal

abbrev pub invariant-loop-key : goal.invariant-loop-key
invariant-loop-key g l = record {
  written :
      with_all g.K.Ord.cmp l.entries.entries (into_iter_items l.key-iterator)
      ≡ with_all g.K.Ord.cmp l.initial.entries.entries l.fn.pairs.items;
  before :
      before_all g.K.Ord.cmp l.steps.items l.entries.entries
      ≡ before_all g.K.Ord.cmp l.initial.steps.items l.initial.entries.entries;
  ordered : IsOrdered g.K.Ord.cmp l.entries;
}
