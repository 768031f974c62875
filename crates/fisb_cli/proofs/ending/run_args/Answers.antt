use Rattle.std.proofs.Common.{◌≡◌, Some, map, string_bytes, refl, sym, ◌∙◌, subst, ap}
use Rattle.fisb_app.specs.Command.{command_named}
use Rattle.fisb_app.specs.declared.command.Command.TheVariants.{Make, Receive}
use Rattle.run_core.specs.Run.{ends, task_of}
use Rattle.fisb_app.specs.Work.{link_work, ground_work, promised_work, receive_work, origin_work, gdl_work}
use Rattle.run_core.specs.declared.status.Status.TheVariants.{NoMemory}
use Rattle.run_core.specs.Unbegun.{unbegun-run}
use Rattle.fisb_cli.proofs.NoMemory.{decided-without-memory}
use Rattle.fisb_cli.proofs.ending.run_args.Goals as goal

pub returns-in-Ok-words-clause-make : goal.returns-in-Ok-words-clause-make
returns-in-Ok-words-clause-make g c =
    rw c.in-Ok.is (λ count seed named.
    let words = c.as_slice.ensures.value ∙ c.in-Ok-words.ensures in
    let refused = c.run.ensures.make count seed (subst (λ ws. command_named (map string_bytes ws) ≡ Some (Make count seed)) (sym words) named) in
    (refused.0, (c.run.result, c.code.ensures, refused.1)))

pub returns-in-Err-words-clause-make : goal.returns-in-Err-words-clause-make
returns-in-Err-words-clause-make g c =
    rw c.in-Ok.is (λ count seed named. (refl, (NoMemory, c.code-in-Err-words.ensures, (refl, refl))))

pub returns-in-Err-words-clause-link : goal.returns-in-Err-words-clause-link
returns-in-Err-words-clause-link g c =
    let e = ends (g.S.Source.left c.args.source.now) (g.S.Source.faults c.args.source.now) (g.K.Sink.written c.args.sink.now) (g.K.Sink.faults c.args.sink.now) in
    rw c.in-Ok.is (λ alone. (NoMemory, c.code-in-Err-words.ensures, (unbegun-run (task_of promised_work) e, decided-without-memory (task_of link_work) e)))

pub returns-in-Err-words-clause-ground_alone : goal.returns-in-Err-words-clause-ground_alone
returns-in-Err-words-clause-ground_alone g c =
    let e = ends (g.S.Source.left c.args.source.now) (g.S.Source.faults c.args.source.now) (g.K.Sink.written c.args.sink.now) (g.K.Sink.faults c.args.sink.now) in
    rw c.in-Ok.is (λ alone. (NoMemory, c.code-in-Err-words.ensures, (unbegun-run (task_of ground_work) e, decided-without-memory (task_of ground_work) e)))

pub returns-in-Ok-words-clause-receive : goal.returns-in-Ok-words-clause-receive
returns-in-Ok-words-clause-receive g c =
    rw c.in-Ok.is (λ alone.
    let words = c.as_slice.ensures.value ∙ c.in-Ok-words.ensures in
    let named = subst (λ ws. command_named (map string_bytes ws) ≡ Some Receive) (sym words) (ap command_named alone) in
    (c.run.result, c.code.ensures, ((λ origin from. c.run.ensures.receive_headline origin from named), c.run.ensures.receive_decided named)))

pub returns-in-Err-words-clause-receive : goal.returns-in-Err-words-clause-receive
returns-in-Err-words-clause-receive g c =
    let e = ends (g.S.Source.left c.args.source.now) (g.S.Source.faults c.args.source.now) (g.K.Sink.written c.args.sink.now) (g.K.Sink.faults c.args.sink.now) in
    rw c.in-Ok.is (λ alone. (NoMemory, c.code-in-Err-words.ensures, ((λ origin from. unbegun-run (task_of (origin_work origin)) e), decided-without-memory (task_of receive_work) e)))

pub returns-in-Err-words-clause-gdl : goal.returns-in-Err-words-clause-gdl
returns-in-Err-words-clause-gdl g c =
    let e = ends (g.S.Source.left c.args.source.now) (g.S.Source.faults c.args.source.now) (g.K.Sink.written c.args.sink.now) (g.K.Sink.faults c.args.sink.now) in
    rw c.in-Ok.is (λ alone. (NoMemory, c.code-in-Err-words.ensures, (unbegun-run (task_of gdl_work) e, decided-without-memory (task_of gdl_work) e)))
