use Rattle.std.proofs.Common.{◌∙◌}
use Rattle.store_trials.proofs.segments.what_was_undone_is_whole_again.Goals as goal

pub mark-requires : goal.mark-requires
mark-requires g c = c.is_answered.ensures.mark ∙ c.joiner-joiner.ensures.mark
