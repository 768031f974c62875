use Rattle.std.proofs.Common.{subst}
use Rattle.fisb_wire.specs.Ends.{IsReached}
use Rattle.run_core.specs.Run.{task_of}
use Rattle.run_core.proofs.Faults.{reads-later, writes-later, read-fault-rose, write-fault-rose}
use Rattle.run_core.proofs.top.run.Goals as goal

pub returns-clause-decided : goal.returns-clause-decided
returns-clause-decided g c =
    c.runs_decide.ensures (task_of g.A.Actor.work) _ _ _ (c.stable_tasks.ensures g.A.Actor.work) c.run_through.ensures.ran

pub returns-clause-complete : goal.returns-clause-complete
returns-clause-complete g c =
    c.runs_complete.ensures (task_of g.A.Actor.work) (g.K.Sink.reach c.args.sink.now) _ _ _
    (c.stable_tasks.ensures g.A.Actor.work) c.run_through.ensures.ran
    (subst (λ r. IsReached r (g.K.Sink.written c.run_through.new.sink) (g.K.Sink.faults c.run_through.new.sink))
    c.run_through.ensures.reach (g.met.K.Sink.reached c.run_through.new.sink))

pub returns-clause-read_fault : goal.returns-clause-read_fault
returns-clause-read_fault g c = λ is. read-fault-rose _ _ _ _ c.run_through.ensures.ran is

pub returns-clause-write_fault : goal.returns-clause-write_fault
returns-clause-write_fault g c = λ is. write-fault-rose _ _ _ _ c.run_through.ensures.ran is

pub returns-clause-source_faults : goal.returns-clause-source_faults
returns-clause-source_faults g c =
    reads-later _ _ _ _ (g.met.S.Source.bounded c.args.source.now) c.run_through.ensures.ran

pub returns-clause-sink_faults : goal.returns-clause-sink_faults
returns-clause-sink_faults g c =
    writes-later _ _ _ _ (g.met.K.Sink.bounded c.args.sink.now) c.run_through.ensures.ran
