use Rattle.std.proofs.Common.{refl, sym, ◌∙◌}
use Rattle.script_core.specs.LineView.{line_view}
use Rattle.fisb_app.specs.Output.{heard_picture}
use Rattle.fisb_app.specs.declared.party.Party.TheVariants.{Ground as GroundParty}
use Rattle.fisb_app.proofs.Keeping.{alone-kept}
use Rattle.fisb_app.proofs.Giving.{update-frames, update-text}
use Rattle.fisb_app.proofs.ground_alone.GroundAlone.give.Goals as goal

pub returns-in-Ok-clause-acted : goal.returns-in-Ok-clause-acted
returns-in-Ok-clause-acted g c = λ bytes acted h.
    let line = line_view c.args.line.now in
    let is = c.requires.update in
    let given = c.in-Ok.ensures.given GroundParty bytes acted h.holds in (
      given.0,
      (
        c.of.ensures ∙ sym (update-text GroundParty heard_picture c.args.self.now.sending.table acted line is),
        alone-kept g.G.Sender.stands bytes acted line c.args.self.now _ given.1
            c.in-Ok.ensures.table refl (update-frames acted line is) h,
      ),
    )

pub returns-in-Err-clause-acted : goal.returns-in-Err-clause-acted
returns-in-Err-clause-acted g c = λ bytes acted h. c.in-Err.ensures.given GroundParty bytes acted h.holds
