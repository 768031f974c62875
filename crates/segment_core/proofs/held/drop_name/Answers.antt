-- A name whose file is not stale yet, and one whose file is.
use Rattle.std.proofs.Common.{◌∙◌, ◌+◌, arith, subst, sym}
use Rattle.std.proofs.lemmas.Bool.{ltb-true}
use Rattle.std.proofs.lemmas.List.Sorted.{length_permutation}
use Rattle.segment_core.specs.Ends.{PiecesHavePlaces, stale_from}
use Rattle.segment_core.specs.Store.{longest_of}
use Rattle.segment_core.proofs.Places.{live-removed, places-again}
use Rattle.segment_core.proofs.held.drop_name.Goals as goal

pub returns-then-is_in_life-clause-placed : goal.returns-then-is_in_life-clause-placed
returns-then-is_in_life-clause-placed c = λ before end left placed.
    places-again c.stations_are_told.ensures c.args.longest.now end c.end_of.result c.args.name before c.args.ends.now.places c.add_again.new.self.places
    c.args.pieces.now.entries c.end_of.ensures.before left c.add_again.ensures.kept c.add_again.ensures.has placed

pub returns-then-is_in_life-clause-due : goal.returns-then-is_in_life-clause-due
returns-then-is_in_life-clause-due c =
    let lives = ltb-true c.args.moment (c.args.name.version + longest_of c.args.longest.now c.args.name.product)
    (sym c.is_in_life.ensures ∙ c.if-is_in_life.true) in
    c.add_again.ensures.due c.args.moment (c.end_of.ensures.later c.args.moment lives c.requires.moment)

pub returns-clause-pieces : goal.returns-clause-pieces
returns-clause-pieces c =
    live-removed c.stations_are_told.ensures c.args.longest.now c.args.moment c.args.name c.args.pieces.now.entries c.remove.new.self.entries
    (sym c.is_in_life.ensures ∙ c.if-is_in_life.false) c.remove.ensures.entries

pub returns-clause-placed : goal.returns-clause-placed
returns-clause-placed c = λ before end left placed.
    subst (PiecesHavePlaces c.args.longest.now c.args.ends.now.places) (sym c.remove.ensures.entries)
    (c.others_have_places.ensures (stale_from c.args.longest.now) end c.args.name before c.args.ends.now.places
    c.args.pieces.now.entries c.remove.ensures.was_ordered left placed)

pub returns-then-is_in_life-clause-few : goal.returns-then-is_in_life-clause-few
returns-then-is_in_life-clause-few c = λ bound.
    let more = length_permutation _ _ c.add_again.ensures.places in omega (arith, more, bound)

pub returns-clause-few : goal.returns-clause-few
returns-clause-few c = λ bound. let left = c.remove.ensures.few in omega (arith, left, bound)
