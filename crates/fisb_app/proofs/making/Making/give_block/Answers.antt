use Rattle.workload.specs.declared.step.Step.TheVariants.{Block}
use Rattle.fisb_app.proofs.Stepping.{block-step, update-taken}
use Rattle.fisb_app.proofs.making.Making.give_block.Goals as goal

pub returns : goal.returns
returns g c = λ table acted h.
    let is = block-step c.histories_grow.ensures table acted c.args.moment c.args.number c.args.cells.now in
    update-taken g.G.Sender.stands g.E.Ear.stands table acted (Block c.args.moment c.args.number c.args.cells.now) c.args.moment _ _ c.args.self.now _ _ _ _ _ is
    c.give_cells.ensures c.answer-given.ensures c.count_update.ensures h
