use Rattle.std.proofs.Common.{ℕ, ◌+◌, ◌-◌, ◌*◌, List, length}
use Rattle.run_core.specs.Limits.{input_limit}
use Rattle.run_core.specs.Run.{Ends, ends}
use Rattle.run_core.specs.Running.{IsAt}
use Rattle.run_core.proofs.Turns.{IsTurn}
use Rattle.run_core.proofs.lines.act_on_lines.Given as goal

abbrev pub invariant-loop-end : goal.invariant-loop-end
invariant-loop-end g l =
    IsTurn l.input l.number l.may_end (g.K.Sink.spare l.sink) (g.K.Sink.reach l.initial.sink) (g.K.Sink.reach l.sink)
    × ((old : Ends) (table : List ℕ)
    → IsAt g.A.Actor.work table (λ past. g.A.Actor.stands table past l.initial.actor) l.initial.number old
    (ends (g.S.Source.left l.initial.source) (g.S.Source.faults l.initial.source) (g.K.Sink.written l.initial.sink)
    (g.K.Sink.faults l.initial.sink)) l.initial.input
    → IsAt g.A.Actor.work table (λ past. g.A.Actor.stands table past l.actor) l.number old
    (ends (g.S.Source.left l.source) (g.S.Source.faults l.source) (g.K.Sink.written l.sink)
    (g.K.Sink.faults l.sink)) l.input)

abbrev pub decreases-loop-end : goal.decreases-loop-end
decreases-loop-end g l = 2 * (input_limit - l.input.taken) + length l.input.ring.items
