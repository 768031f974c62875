-- With room a push goes well.
use Rattle.std.proofs.Common.{◌<◌, ◌∷◌, ℕ, IsPermutation, map, sym, subst, arith}
use Rattle.std.specs.BinaryHeap.{heap_items}
use Rattle.std.proofs.lemmas.List.Sorted.{IsPermutation-map}
use Rattle.undo_map.specs.Ends.{Queue}
use Rattle.undo_map.specs.declared.end_queue.Place.{Place}
use Rattle.undo_map.proofs.PlaceLemmas.{at-ok, has-added-behind, keeps-added-behind}
use Rattle.undo_map.proofs.end_queue.EndQueue.add.Goals as goal

pub returns-clause-added : goal.returns-clause-added
returns-clause-added g c =
    let room = subst (λ (q : Queue g.row.K.Denot). 0 < q.added_spare) (sym c.self.view_is) c.requires.1 in
    let pushed = at-ok c.push.result (c.push.ensures.succeeds (omega arith)) c.push.ensures.permutation in
    rw (← c.self.view_is) (IsPermutation-map (λ (place : Place g.row.K.Denot). (place.end, place.key)) _ _ pushed)

pub returns-clause-kept : goal.returns-clause-kept
returns-clause-kept g c =
    let view : Place g.row.K.Denot → ℕ × g.row.K.Denot = λ place. (place.end, place.key) in
    let added = map view (heap_items c.push.new.self) in
    rw (← c.self.view_is)
    (keeps-added-behind (c.args.end, c.args.key) (map view (heap_items c.self.inside.places)) (map view (heap_items c.self.inside.added)) added
    (subst (λ (q : Queue g.row.K.Denot). IsPermutation ((c.args.end, c.args.key) ∷ q.added) added) (sym c.self.view_is) (returns-clause-added g c)))

pub returns-clause-has : goal.returns-clause-has
returns-clause-has g c =
    let view : Place g.row.K.Denot → ℕ × g.row.K.Denot = λ place. (place.end, place.key) in
    let added = map view (heap_items c.push.new.self) in
    has-added-behind (c.args.end, c.args.key) (map view (heap_items c.self.inside.places)) (map view (heap_items c.self.inside.added)) added
    (subst (λ (q : Queue g.row.K.Denot). IsPermutation ((c.args.end, c.args.key) ∷ q.added) added) (sym c.self.view_is) (returns-clause-added g c))
