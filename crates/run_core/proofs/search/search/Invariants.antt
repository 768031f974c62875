use Rattle.std.proofs.Common.{◌+◌, ◌-◌, ◌*◌, length}
use Rattle.run_core.specs.Limits.{ring_limit}
use Rattle.run_core.specs.Run.{source_end}
use Rattle.run_core.proofs.Turns.{IsSearch}
use Rattle.run_core.proofs.search.search.Given as goal

abbrev pub invariant-loop-end : goal.invariant-loop-end
invariant-loop-end g l = IsSearch
    (source_end (g.S.Source.left l.initial.source) (g.S.Source.faults l.initial.source))
    (source_end (g.S.Source.left l.source) (g.S.Source.faults l.source)) l.input l.place l.number l.may_end

abbrev pub decreases-loop-end : goal.decreases-loop-end
decreases-loop-end g l = 2 * ring_limit - (l.place + length l.input.ring.items)
