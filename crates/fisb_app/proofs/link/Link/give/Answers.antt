use Rattle.std.proofs.Common.{refl, sym, ◌∙◌}
use Rattle.script_core.specs.LineView.{line_view}
use Rattle.fisb_app.specs.Output.{heard_picture}
use Rattle.fisb_app.specs.declared.party.Party.TheVariants.{Link as LinkParty}
use Rattle.fisb_app.proofs.Keeping.{link-kept}
use Rattle.fisb_app.proofs.Giving.{update-frames, update-receptions, update-text}
use Rattle.fisb_app.proofs.link.Link.give.Goals as goal

pub returns-in-Ok-clause-acted : goal.returns-in-Ok-clause-acted
returns-in-Ok-clause-acted g c = λ bytes acted h.
    let line = line_view c.args.line.now in
    let is = c.requires.update in
    let given = c.in-Ok.ensures.given LinkParty bytes acted h.holds in (
      given.0,
      (
        c.of.ensures ∙ sym (update-text LinkParty heard_picture c.args.self.now.sending.table acted line is),
        link-kept g.G.Sender.stands g.E.Ear.stands bytes acted line c.args.self.now _ given.1
            c.in-Ok.ensures.table refl refl (update-frames acted line is) (update-receptions acted line is) h,
      ),
    )

pub returns-in-Err-clause-acted : goal.returns-in-Err-clause-acted
returns-in-Err-clause-acted g c = λ bytes acted h. c.in-Err.ensures.given LinkParty bytes acted h.holds
