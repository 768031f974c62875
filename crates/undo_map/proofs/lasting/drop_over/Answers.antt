-- Each turn takes a place out that has come; at the end none has come, and so no entry is over.
use Rattle.std.proofs.Common.{All, ◌∙◌, ◌<◌, ℕ, sym, subst, arith}
use Rattle.std.proofs.lemmas.List.Sorted.{length_permutation}
use Rattle.undo_map.specs.Ends.{due_places}
use Rattle.undo_map.proofs.EndLemmas.{places-moved}
use Rattle.undo_map.proofs.OverLemmas.{lives-yet}
use Rattle.undo_map.proofs.lasting.drop_over.Goals as goal

pub loop-key-smaller : goal.loop-key-smaller
loop-key-smaller g c =
    let fewer = c.in-Some.ensures.due in
    let same = c.drop_key.ensures.due in
    subst (λ (n : ℕ). n < due_places c.args.now c.loop-key.ends.places) (sym same) fewer

pub loop-key-preserved : goal.loop-key-preserved
loop-key-preserved g c = record {
  entries =
      rw c.drop_key.ensures.entries
      (lives-yet g.K.Ord.cmp g.V.Lasting.end c.args.now c.in-Some.key c.loop-key.map.entries ∙ c.loop-key.invariant.entries);
  mark = c.drop_key.ensures.mark;
  placed =
      c.drop_key.ensures.placed c.in-Some.field-0-0
      (places-moved g.K.Ord.cmp (λ e. g.V.Lasting.end e.1) c.loop-key.ends.places _ c.loop-key.map.entries
      c.in-Some.ensures.taken c.loop-key.invariant.placed);
  few =
      let taken = length_permutation c.loop-key.ends.places _ c.in-Some.ensures.taken in
      let bound = c.loop-key.invariant.few in
      c.drop_key.ensures.few (omega (arith, taken, bound));
  added = c.drop_key.ensures.added ∙ c.in-Some.ensures.added ∙ c.loop-key.invariant.added;
}

pub returns-clause-entries : goal.returns-clause-entries
returns-clause-entries g c =
    sym (c.none_is_over.ensures g.K.Ord.cmp (λ e. g.V.Lasting.end e.1) c.args.now c.loop-key.ends.places
    c.loop-key.map.entries
    (subst (All (λ (place : ℕ × g.row.K.Denot). c.args.now < place.0)) c.in_default.ensures.unchanged c.in_default.ensures.none)
    c.loop-key.invariant.placed)
    ∙ c.loop-key.invariant.entries
