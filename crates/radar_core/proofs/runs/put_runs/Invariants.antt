use Rattle.radar_core.proofs.RunsLemmas.{IsUnderway}
use Rattle.radar_core.proofs.runs.put_runs.Given as goal

abbrev pub invariant-loop-place : goal.invariant-loop-place
invariant-loop-place l = IsUnderway l.cells l.fn.room l.room l.used l.place l.run
