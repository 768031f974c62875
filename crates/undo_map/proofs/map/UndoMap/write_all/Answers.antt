-- One entry more, where a key has a value only then.
use Rattle.std.proofs.Common.{◌≡◌, ◌+◌, ◌≤◌, List, OnOk, length, sym, subst, true}
use Rattle.std.specs.Prelude.{None, is_some}
use Rattle.std.specs.BTreeMap.{is_at}
use Rattle.std.specs.Map.{lookup}
use Rattle.undo_map.specs.Marked.{Marked}
use Rattle.std.proofs.lemmas.Result.{on_ok_weaker}
use Rattle.undo_map.proofs.EndLemmas.{all-more}
use Rattle.undo_map.proofs.map.UndoMap.write_all.Goals as goal

pub returns-then-self-clause-more : goal.returns-then-self-clause-more
returns-then-self-clause-more g c =
    let R = g.K.Ord.cmp in
    let new = c.write_all_steps.new.entries.entries in
    let es = c.self.inside.entries.entries in
    let More : List (g.row.K.Denot × g.row.V.Denot) → List (g.row.K.Denot × g.row.V.Denot) → Type 0 = λ old later.
    (key : g.row.K.Denot) → lookup (is_at (R key)) old ≡ None → is_some (lookup (is_at (R key)) later) ≡ true
    → length old + 1 ≤ length later in
    subst (λ (m : Marked g.row.K.Denot g.row.V.Denot). OnOk c.write_all_steps.result (More m.entries new)) c.self.view_is
    (on_ok_weaker c.write_all_steps.result
    (λ is. subst (More es) (sym is) (λ key absent some. all-more R key c.args.pairs.items es absent some))
    c.write_all_steps.ensures.written)

pub returns-clause-more : goal.returns-clause-more
returns-clause-more g c =
    let R = g.K.Ord.cmp in
    let new = c.write_all_steps-2.new.entries.entries in
    let es = c.self.inside.entries.entries in
    let More : List (g.row.K.Denot × g.row.V.Denot) → List (g.row.K.Denot × g.row.V.Denot) → Type 0 = λ old later.
    (key : g.row.K.Denot) → lookup (is_at (R key)) old ≡ None → is_some (lookup (is_at (R key)) later) ≡ true
    → length old + 1 ≤ length later in
    subst (λ (m : Marked g.row.K.Denot g.row.V.Denot). OnOk c.write_all_steps-2.result (More m.entries new)) c.self.view_is
    (on_ok_weaker c.write_all_steps-2.result
    (λ is. subst (More es) (sym is) (λ key absent some. all-more R key c.args.pairs.items es absent some))
    c.write_all_steps-2.ensures.written)
