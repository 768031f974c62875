use Rattle.std.proofs.Common.{refl, ap, ◌∙◌}
use Rattle.fisb_app.specs.Past.{air_heard}
use Rattle.fisb_app.proofs.Acting.{heard-line, unfound-line}
use Rattle.fisb_app.proofs.link.Link.hear.Goals as goal

pub returns-clause-acted : goal.returns-clause-acted
returns-clause-acted g c = λ bytes acted h.
    let table = c.args.self.now.sending.table in
    heard-line g.G.Sender.stands g.E.Ear.stands bytes acted c.args.moment c.args.frame c.args.wrong.now c.args.self.now (record c.args.self.now { ear = c.receive.new.ear }) c.in-Ok.air _ _ h
    refl refl (c.in-Ok.ensures _ h.sent)
    (c.put_wrong.ensures ∙ ap (λ wrong. air_heard wrong c.in-Ok.air) c.all.ensures)
    (c.receive.ensures.received table _ h.ear)

pub returns-in-Err-clause-acted : goal.returns-in-Err-clause-acted
returns-in-Err-clause-acted g c = λ bytes acted h.
    unfound-line c.args.self.now.sending.table acted c.args.moment c.args.frame c.args.wrong.now c.in-Err.reason (c.in-Err.ensures _ h.sent)
