use Rattle.fisb_app.proofs.top.run_link_over.Goals as goal

pub returns-clause-headline : goal.returns-clause-headline
returns-clause-headline g c = c.runs_agree.ensures.run _ _ _ _ _ c.promises_are_kept.ensures c.run.ensures.ran
