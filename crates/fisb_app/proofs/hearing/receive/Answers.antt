use Rattle.fisb_app.proofs.Receiving.{received-heard, received-unheard}
use Rattle.fisb_app.proofs.hearing.receive.Goals as goal

pub returns-in-Ok-clause-received : goal.returns-in-Ok-clause-received
returns-in-Ok-clause-received g c = λ table past s.
    received-heard (λ heard. g.E.Ear.stands table heard c.hear.new.self) table past c.args.moment c.args.air.now _ c.in-Ok.heard
    (c.in-Ok.ensures table past s) c.of.ensures

pub returns-in-Err-clause-received : goal.returns-in-Err-clause-received
returns-in-Err-clause-received g c = λ table past s.
    let h = c.in-Err.ensures table past s in
    received-unheard (λ heard. g.E.Ear.stands table heard c.hear.new.self) table past c.args.moment c.args.air.now _
    (c.answer_unheard.ensures table past c.args.air.now h.refused) h.kept
