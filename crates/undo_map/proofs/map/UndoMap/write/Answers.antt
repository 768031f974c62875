-- One entry more, where the key had none.
use Rattle.std.proofs.Common.{◌≡◌, ◌+◌, ◌∙◌, List, OnOk, length, ap, subst}
use Rattle.std.specs.Prelude.{None}
use Rattle.std.specs.BTreeMap.{is_at}
use Rattle.std.specs.Map.{lookup}
use Rattle.undo_map.specs.Marked.{Marked}
use Rattle.std.proofs.lemmas.Result.{on_ok_weaker}
use Rattle.undo_map.proofs.EndLemmas.{length-insert}
use Rattle.undo_map.proofs.map.UndoMap.write.Goals as goal

pub returns-then-self-clause-more : goal.returns-then-self-clause-more
returns-then-self-clause-more g c =
    let R = g.K.Ord.cmp in
    let new = c.write_step.new.entries.entries in
    let es = c.self.inside.entries.entries in
    subst (λ (m : Marked g.row.K.Denot g.row.V.Denot). OnOk c.write_step.result
    (lookup (is_at (R c.args.key)) m.entries ≡ None → length new ≡ length m.entries + 1)) c.self.view_is
    (on_ok_weaker c.write_step.result
    (λ is absent. ap (λ (xs : List (g.row.K.Denot × g.row.V.Denot)). length xs) is ∙ length-insert R c.args.key c.args.value es absent)
    c.write_step.ensures.written)
