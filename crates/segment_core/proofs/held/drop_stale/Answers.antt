-- Each turn takes a place out that has come; at the end none has come, and so no file is stale.
use Rattle.std.proofs.Common.{All, ℕ, ◌∙◌, ◌<◌, arith, sym, subst}
use Rattle.std.proofs.lemmas.List.Sorted.{length_permutation}
use Rattle.undo_map.specs.Ends.{due_places}
use Rattle.segment_core.specs.Ends.{stale_from}
use Rattle.segment_core.specs.contracts.piece_name.PieceNameOrd.TheImpl as order
use Rattle.segment_core.specs.declared.piece_name.PieceName.{PieceName}
use Rattle.segment_core.proofs.held.drop_stale.Goals as goal

pub loop-name-smaller : goal.loop-name-smaller
loop-name-smaller c =
    let old = c.loop-name.ends.places in
    let taken = c.take_ended.new.self.places in
    let fewer : due_places c.args.moment taken < due_places c.args.moment old =
    subst (λ (m : ℕ). due_places m taken < due_places m old) c.seconds-now.ensures.value c.in-Some.ensures.due in
    subst (λ (n : ℕ). n < due_places c.args.moment old) (sym c.drop_name.ensures.due) fewer

pub loop-name-preserved : goal.loop-name-preserved
loop-name-preserved c = record {
  pieces = c.drop_name.ensures.pieces ∙ c.loop-name.invariant.pieces;
  mark = c.drop_name.ensures.mark;
  placed =
      c.drop_name.ensures.placed c.loop-name.ends.places c.in-Some.field-0-0 c.in-Some.ensures.left
      c.loop-name.invariant.placed;
  few =
      let taken = length_permutation c.loop-name.ends.places _ c.in-Some.ensures.taken in
      let bound = c.loop-name.invariant.few in
      c.drop_name.ensures.few (omega (arith, taken, bound));
  added = c.drop_name.ensures.added ∙ c.in-Some.ensures.added ∙ c.loop-name.invariant.added;
}

pub returns-clause-pieces : goal.returns-clause-pieces
returns-clause-pieces c =
    let places = c.loop-name.ends.places in
    let none : All (λ (place : ℕ × PieceName). c.args.moment < place.0) places =
    subst (λ (m : ℕ). All (λ (place : ℕ × PieceName). m < place.0) places) c.seconds-now.ensures.value
    (subst (All (λ (place : ℕ × PieceName). c.seconds-now.result < place.0)) c.in_default.ensures.unchanged
    c.in_default.ensures.none) in
    sym (c.none_is_over.ensures order.ghosts.cmp (stale_from c.args.longest.now) c.args.moment places
    c.loop-name.pieces.entries none c.loop-name.invariant.placed)
    ∙ c.loop-name.invariant.pieces
