-- Without the key nothing is changed.
use Rattle.std.proofs.Common.{◌≡◌, ◌∙◌, ap, sym}
use Rattle.std.specs.Prelude.{None}
use Rattle.std.specs.BTreeMap.{is_at}
use Rattle.std.specs.Map.{lookup}
use Rattle.std.specs.Option.{option_copied_mut}
use Rattle.undo_map.proofs.StepLemmas.{set_value-absent}
use Rattle.undo_map.proofs.step.put_back.Goals as goal

pub returns-in-None-clause-back : goal.returns-in-None-clause-back
returns-in-None-clause-back g c =
    let test = is_at (g.K.Ord.cmp c.args.key.now) in
    let absent : lookup test c.args.entries.now.entries ≡ None =
    sym c.get_mut.ensures.value ∙ ap option_copied_mut c.in-None.is in
    rw c.get_mut.follows.holds-at-none (sym (set_value-absent test c.args.entries.now.entries c.args.value absent))
