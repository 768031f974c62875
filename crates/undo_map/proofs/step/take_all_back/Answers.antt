-- The step that was last is taken back first.
use Rattle.std.proofs.Common.{◌∙◌, sym, ◌∷◌, []}
use Rattle.undo_map.proofs.StepLemmas.{before_all-append}
use Rattle.undo_map.proofs.step.take_all_back.Goals as goal

pub loop-step-preserved : goal.loop-step-preserved
loop-step-preserved g c = record {
  back =
      rw c.take_back.ensures.back
      (sym (before_all-append g.K.Ord.cmp c.pop.new.self.items (c.in-Some.step ∷ []) c.loop-step.entries.entries)
      ∙ rw (← c.in-Some.ensures.items) c.loop-step.invariant.back);
  ordered = c.take_back.ensures.ordered;
}
