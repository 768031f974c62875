use Rattle.workload.specs.declared.step.Step.TheVariants.{Blanks}
use Rattle.fisb_app.proofs.Stepping.{blanks-step, update-taken}
use Rattle.fisb_app.proofs.making.Making.give_blanks.Goals as goal

pub returns : goal.returns
returns g c = λ table acted h.
    let is = blanks-step c.histories_grow.ensures table acted c.args.moment c.args.numbers.now in
    update-taken g.G.Sender.stands g.E.Ear.stands table acted (Blanks c.args.moment c.args.numbers.now) c.args.moment _ _ c.args.self.now _ _ _ _ _ is
    c.give_blanks.ensures c.answer-given.ensures c.count_update.ensures h
