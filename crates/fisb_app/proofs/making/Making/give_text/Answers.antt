use Rattle.workload.specs.declared.step.Step.TheVariants.{Text}
use Rattle.fisb_app.proofs.Stepping.{text-step, update-taken}
use Rattle.fisb_app.proofs.making.Making.give_text.Goals as goal

pub returns : goal.returns
returns g c = λ table acted h.
    let is = text-step c.histories_grow.ensures table acted c.args.moment c.args.text.now in
    update-taken g.G.Sender.stands g.E.Ear.stands table acted (Text c.args.moment c.args.text.now) c.args.moment _ _ c.args.self.now _ _ _ _ _ is
    c.give_text.ensures c.answer-given.ensures c.count_update.ensures h
