-- What a link and a receiver do is what they promise.
use Rattle.std.proofs.Common.{◌≡◌, Bool, true, false, if◌then◌else◌, refl}
use Rattle.script_core.specs.Laws.{LinesHaveRanges}
use Rattle.run_core.specs.Laws.{Agrees}
use Rattle.run_core.specs.Run.{task_of}
use Rattle.fisb_app.specs.declared.party.Party.TheVariants.{Link, Receive}
use Rattle.fisb_app.specs.Output.{heard_picture, promised_picture, sent_picture}
use Rattle.fisb_app.specs.Damage.{all_near}
use Rattle.fisb_app.specs.Origin.{Origin, IsOrigin, all_sent, origin_picture}
use Rattle.fisb_app.specs.Work.{link_work, promised_work, receive_work, origin_work}
use Rattle.fisb_app.proofs.Sound.{Laws, IsSound, sound-start, sound-line, pictures-same}
use Rattle.fisb_app.proofs.Origins.{IsHeardFrom, heard-start, heard-line, origin-pictures}
use Rattle.fisb_app.proofs.Agreeing.{TablesKeepRules, pictures-agreed}

where-claimed : {A : Type 0} (claim : Bool) (promised heard : A) → (claim ≡ true → heard ≡ promised) → heard ≡ (if claim then promised else heard)
where-claimed true promised heard same = same refl
where-claimed false promised heard same = refl

pub promised : Laws → LinesHaveRanges → TablesKeepRules → Agrees (task_of link_work) (task_of promised_work)
promised laws = pictures-agreed Link heard_picture (promised_picture all_near sent_picture) IsSound
    (record {
      start = sound-start;
      more = sound-line laws;
      shown = λ table acted moment rules e s. where-claimed (all_near table acted) _ _ (pictures-same laws table acted moment rules e s);
    })

pub told-of-origin : Laws → LinesHaveRanges → TablesKeepRules → (origin : Origin) → IsOrigin origin → Agrees (task_of receive_work) (task_of (origin_work origin))
told-of-origin laws ranges rules origin from = pictures-agreed Receive heard_picture (promised_picture (all_sent origin) (origin_picture origin)) (IsHeardFrom origin)
    (record {
      start = heard-start origin;
      more = heard-line origin from laws;
      shown = λ table acted moment rules e s. where-claimed (all_sent origin table acted) _ _ (origin-pictures origin from laws table acted moment rules e s);
    })
    ranges rules
