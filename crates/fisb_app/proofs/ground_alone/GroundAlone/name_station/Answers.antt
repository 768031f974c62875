use Rattle.std.proofs.Common.{refl}
use Rattle.script_core.specs.Script.{station}
use Rattle.fisb_app.specs.declared.party.Party.TheVariants.{Ground as GroundParty}
use Rattle.fisb_app.proofs.Keeping.{alone-kept}
use Rattle.fisb_app.proofs.ground_alone.GroundAlone.name_station.Goals as goal

pub returns-in-Ok-clause-acted : goal.returns-in-Ok-clause-acted
returns-in-Ok-clause-acted g c = λ bytes acted h.
    let named = c.in-Ok.ensures.named GroundParty bytes acted h.holds in (
      named.0,
      (
        c.of.ensures,
        alone-kept g.G.Sender.stands bytes acted (station c.args.named) c.args.self.now _ named.1
            c.in-Ok.ensures.table refl (λ t. refl) h,
      ),
    )

pub returns-in-Err-clause-acted : goal.returns-in-Err-clause-acted
returns-in-Err-clause-acted g c = λ bytes acted h. c.in-Err.ensures.named GroundParty bytes acted h.holds
