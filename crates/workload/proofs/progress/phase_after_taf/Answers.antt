-- Radar comes in every fifth minute.
use Rattle.std.proofs.Common.{◌%◌, refl, eq-eqb}
use Rattle.std.proofs.lemmas.Bool.{ne_eqb}
use Rattle.workload.specs.Progress.{phase_after_taf}
use Rattle.workload.proofs.progress.phase_after_taf.Goals as goal

pub returns-then-minute-eq0 : goal.returns-then-minute-eq0
unfolding phase_after_taf
returns-then-minute-eq0 c = rw (eq-eqb (c.args.minute % 5) 0 c.if-minute-eq0.true) refl

pub returns-else-minute-eq0 : goal.returns-else-minute-eq0
unfolding phase_after_taf
returns-else-minute-eq0 c = rw (ne_eqb (c.args.minute % 5) 0 c.if-minute-eq0.false) refl
