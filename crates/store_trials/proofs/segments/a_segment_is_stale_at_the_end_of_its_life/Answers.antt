use Rattle.std.proofs.Common.{◌∙◌}
use Rattle.store_trials.proofs.segments.a_segment_is_stale_at_the_end_of_its_life.Goals as goal

pub purge-requires-clause-unmarked : goal.purge-requires-clause-unmarked
purge-requires-clause-unmarked g c = c.makes_both_whole.ensures.mark ∙ c.is_answered.ensures.mark ∙ c.joiner-joiner.ensures.mark
