use Rattle.std.proofs.Common.{◌≡◌, None}
use Rattle.report_trials.proofs.pictures.blocks_are_kept_until_they_end.Given as goal

abbrev pub invariant-loop-number : goal.invariant-loop-number
invariant-loop-number g l = l.picture.mark ≡ None
