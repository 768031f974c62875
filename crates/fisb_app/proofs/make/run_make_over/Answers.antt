use Rattle.std.proofs.Common.{◌∙◌, ◌<◌, ◌++◌, length, subst, sym}
use Rattle.std.specs.Io.KnownBytes.{Appends}
use Rattle.run_core.specs.Run.{AppendsFront}
use Rattle.fisb_app.proofs.StepLoop.{summary-of}
use Rattle.fisb_app.proofs.make.run_make_over.Goals as goal

pub returns-in-Ok-write_all-clause-made : goal.returns-in-Ok-write_all-clause-made
returns-in-Ok-write_all-clause-made g c =
    let same = c.all.ensures ∙ c.in-Ok-print_summary.ensures ∙ summary-of c.args.count c.args.seed c.in-Ok.counts c.in-Ok.ensures in (
      subst (λ piece. Appends (g.K.Sink.written c.args.sink.now) (g.K.Sink.written c.write_all.new.sink) piece) same c.in-Ok-write_all.ensures.whole,
      c.in-Ok-write_all.ensures.kept,
    )

pub returns-clause-made : goal.returns-clause-made
returns-clause-made g c =
    let same = c.all.ensures ∙ c.in-Ok-print_summary.ensures ∙ summary-of c.args.count c.args.seed c.in-Ok.counts c.in-Ok.ensures in (
      c.in-Err.ensures.rose,
      subst (λ piece. AppendsFront (g.K.Sink.written c.args.sink.now) (g.K.Sink.written c.write_all.new.sink) piece) same c.in-Err.ensures.front,
    )

pub returns-clause-complete : goal.returns-clause-complete
returns-clause-complete g c = λ before room written far small is.
    let same = c.all.ensures ∙ c.in-Ok-print_summary.ensures ∙ summary-of c.args.count c.args.seed c.in-Ok.counts c.in-Ok.ensures in
    c.in-Err.ensures.complete before room written far (subst (λ piece. length (before ++ piece) < room) (sym same) small)
