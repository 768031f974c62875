-- The changes that are there and those of the blocks that are left are all changes.
use Rattle.std.proofs.Common.{◌≡◌, ◌-◌, ◌++◌}
use Rattle.workload.specs.Hearings.{changes}
use Rattle.workload.proofs.draws.Draws.changes.Given as goal

abbrev pub invariant-loop-block : goal.invariant-loop-block
invariant-loop-block l =
    (l.changes ++ (changes l.block (6 - l.block) l.self.state).0 ≡ (changes 0 6 l.initial.self.state).0)
    × ((changes l.block (6 - l.block) l.self.state).1 ≡ (changes 0 6 l.initial.self.state).1)
