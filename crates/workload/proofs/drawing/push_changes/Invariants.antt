-- So many changes are there.
use Rattle.std.proofs.Common.{◌≡◌, ◌++◌}
use Rattle.workload.specs.Hearings.{block_changes}
use Rattle.workload.proofs.drawing.push_changes.Given as goal

abbrev pub invariant-loop-t : goal.invariant-loop-t
invariant-loop-t l = l.changes ≡ l.initial.changes ++ block_changes l.block l.t l.first l.byte
