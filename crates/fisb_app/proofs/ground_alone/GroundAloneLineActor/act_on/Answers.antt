use Rattle.fisb_app.proofs.ground_alone.GroundAloneLineActor.act_on.Goals as goal

pub returns-in-Turn-clause-acted : goal.returns-in-Turn-clause-acted
returns-in-Turn-clause-acted g c = rw c.in-Turn.is (λ bytes acted here h. c.turn.ensures.acted bytes acted h)

pub returns-in-Text-clause-acted : goal.returns-in-Text-clause-acted
returns-in-Text-clause-acted g c = λ bytes acted here h. c.give.ensures.acted bytes acted h
