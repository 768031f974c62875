-- The steps of their own, behind those that stood, take back what was written.
use Rattle.std.proofs.Common.{◌∙◌, ap}
use Rattle.undo_map.specs.Steps.{before_all}
use Rattle.undo_map.proofs.StepLemmas.{before_all-append}
use Rattle.undo_map.proofs.step.write_apart.Goals as goal

pub returns-clause-steps_ok : goal.returns-clause-steps_ok
returns-clause-steps_ok g c =
    rw c.in_ok-append.ensures.items
    (before_all-append g.K.Ord.cmp c.args.steps.now.items c.write_steps.new.steps.items c.write_steps.new.entries.entries
    ∙ ap (before_all g.K.Ord.cmp c.args.steps.now.items) c.write_steps.ensures.before)
