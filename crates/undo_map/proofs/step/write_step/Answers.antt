-- The new step takes the new entry back; then the earlier steps go on as before.
use Rattle.std.proofs.Common.{◌≡◌, ◌∙◌, ap, ◌∷◌, []}
use Rattle.std.specs.BTreeMap.{insert_entry, is_at}
use Rattle.std.specs.Map.{lookup}
use Rattle.undo_map.specs.Steps.{before_all, taken_back}
use Rattle.undo_map.proofs.StepLemmas.{before_all-append, taken_back-insert}
use Rattle.undo_map.proofs.step.write_step.Goals as goal

pub returns-clause-before : goal.returns-clause-before
returns-clause-before g c =
    let R = g.K.Ord.cmp in
    let es = c.args.entries.now.entries in
    let back : taken_back R c.args.key (lookup (is_at (R c.args.key)) es) (insert_entry R es c.args.key c.args.value) ≡ es =
    taken_back-insert R g.met.K.Ord.total c.args.key c.args.value es c.requires in
    rw (c.push_reserved.ensures.items, c.reserve.ensures.items, c.in_ok-was.ensures.entries)
    (before_all-append R c.args.steps.now.items (record { key = c.in_ok-copy.copy; was = c.in_ok-was.was' } ∷ [])
    (insert_entry R es c.args.key c.args.value)
    ∙ ap (before_all R c.args.steps.now.items) (rw (c.in_ok-copy.ensures, c.in_ok-was.ensures.old) back))
