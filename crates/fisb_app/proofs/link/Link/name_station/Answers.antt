use Rattle.std.proofs.Common.{refl}
use Rattle.script_core.specs.Script.{station}
use Rattle.fisb_app.specs.declared.party.Party.TheVariants.{Link as LinkParty}
use Rattle.fisb_app.proofs.Keeping.{link-kept}
use Rattle.fisb_app.proofs.link.Link.name_station.Goals as goal

pub returns-in-Ok-clause-acted : goal.returns-in-Ok-clause-acted
returns-in-Ok-clause-acted g c = λ bytes acted h.
    let named = c.in-Ok.ensures.named LinkParty bytes acted h.holds in (
      named.0,
      (
        c.of.ensures,
        link-kept g.G.Sender.stands g.E.Ear.stands bytes acted (station c.args.named) c.args.self.now _ named.1
            c.in-Ok.ensures.table refl refl (λ t. refl) (λ t. refl) h,
      ),
    )

pub returns-in-Err-clause-acted : goal.returns-in-Err-clause-acted
returns-in-Err-clause-acted g c = λ bytes acted h. c.in-Err.ensures.named LinkParty bytes acted h.holds
