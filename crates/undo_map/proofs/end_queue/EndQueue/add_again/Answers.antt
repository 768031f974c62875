-- With room a push goes well.
use Rattle.std.proofs.Common.{◌<◌, sym, subst, arith}
use Rattle.std.proofs.lemmas.List.Sorted.{IsPermutation-map}
use Rattle.undo_map.specs.Ends.{Queue}
use Rattle.undo_map.specs.declared.end_queue.Place.{Place}
use Rattle.undo_map.proofs.PlaceLemmas.{at-ok, due-added, has-added-place, keeps-added}
use Rattle.undo_map.proofs.end_queue.EndQueue.add_again.Goals as goal

pub returns-clause-places : goal.returns-clause-places
returns-clause-places g c =
    let room = subst (λ (q : Queue g.row.K.Denot). 0 < q.spare) (sym c.self.view_is) c.requires in
    let pushed = at-ok c.push.result (c.push.ensures.succeeds (omega arith)) c.push.ensures.permutation in
    rw (← c.self.view_is) (IsPermutation-map (λ (place : Place g.row.K.Denot). (place.end, place.key)) _ _ pushed)

pub returns-clause-kept : goal.returns-clause-kept
returns-clause-kept g c = keeps-added (c.args.end, c.args.key) c.args.self.now.places _ (returns-clause-places g c)

pub returns-clause-has : goal.returns-clause-has
returns-clause-has g c = has-added-place (c.args.end, c.args.key) c.args.self.now.places _ (returns-clause-places g c)

pub returns-clause-due : goal.returns-clause-due
returns-clause-due g c = λ now later.
    due-added now c.args.end c.args.key c.args.self.now.places _ later (returns-clause-places g c)
