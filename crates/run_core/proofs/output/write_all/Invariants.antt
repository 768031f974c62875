use Rattle.std.proofs.Common.{◌-◌, length}
use Rattle.run_core.proofs.Sending.{HasSent}
use Rattle.run_core.proofs.output.write_all.Given as goal

abbrev pub invariant-loop-sent : goal.invariant-loop-sent
invariant-loop-sent g l = HasSent (g.K.Sink.written l.initial.sink) (g.K.Sink.written l.sink)
    (g.K.Sink.faults l.initial.sink) (g.K.Sink.faults l.sink)
    (g.K.Sink.reach l.initial.sink) (g.K.Sink.reach l.sink) (g.K.Sink.spare l.sink) l.piece l.sent

abbrev pub decreases-loop-sent : goal.decreases-loop-sent
decreases-loop-sent g l = length l.piece - l.sent
