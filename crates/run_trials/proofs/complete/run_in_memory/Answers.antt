use Rattle.std.proofs.Common.{Some, ◌∙◌}
use Rattle.run_core.specs.Run.{task_of}
use Rattle.run_trials.proofs.Unfailed.{unfailed, done}
use Rattle.run_trials.proofs.complete.run_in_memory.Goals as goal

pub returns-clause-unfailed : goal.returns-clause-unfailed
returns-clause-unfailed g c = λ small.
    let all = unfailed (task_of g.A.Actor.work) c.args.input c.new-source.result c.args.room c.of-none.result
    (Some c.run-status.new.source) c.in_ok-sink.sink c.run-status.new.sink c.run-status.result
    c.new-source.ensures (c.of-none.ensures ∙ c.new.ensures.items) c.in_ok-sink.ensures
    c.run-status.ensures.complete small in
    (all.0, all.1)

pub returns-clause-whole : goal.returns-clause-whole
returns-clause-whole g c = λ small.
    let all = unfailed (task_of g.A.Actor.work) c.args.input c.new-source.result c.args.room c.of-none.result
    (Some c.run-status.new.source) c.in_ok-sink.sink c.run-status.new.sink c.run-status.result
    c.new-source.ensures (c.of-none.ensures ∙ c.new.ensures.items) c.in_ok-sink.ensures
    c.run-status.ensures.complete small in
    all.2

pub returns-clause-done : goal.returns-clause-done
returns-clause-done g c = λ fits clean small.
    done (task_of g.A.Actor.work) c.args.input c.run-status.new.sink.bytes c.run-status.result c.args.room fits clean small
    (λ within. (unfailed (task_of g.A.Actor.work) c.args.input c.new-source.result c.args.room c.of-none.result
    (Some c.run-status.new.source) c.in_ok-sink.sink c.run-status.new.sink c.run-status.result
    c.new-source.ensures (c.of-none.ensures ∙ c.new.ensures.items) c.in_ok-sink.ensures
    c.run-status.ensures.complete within).2)
