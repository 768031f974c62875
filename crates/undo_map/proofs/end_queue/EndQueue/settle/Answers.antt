-- There is room for the places that were added.
use Rattle.std.proofs.Common.{◌++◌, map, subst, IsPermutation, List, ℕ}
use Rattle.std.specs.BinaryHeap.{heap_items}
use Rattle.std.proofs.lemmas.List.Sorted.{IsPermutation-map}
use Rattle.std.proofs.lemmas.List.{map-append}
use Rattle.undo_map.specs.declared.end_queue.Place.{Place}
use Rattle.undo_map.proofs.PlaceLemmas.{at-ok}
use Rattle.undo_map.proofs.end_queue.EndQueue.settle.Goals as goal

pub returns-clause-places : goal.returns-clause-places
returns-clause-places g c =
    let view : Place g.row.K.Denot → ℕ × g.row.K.Denot = λ place. (place.end, place.key) in
    let places = heap_items c.self.inside.places in
    let added = heap_items c.self.inside.added in
    let moved = at-ok c.append.result (c.append.ensures.succeeds c.self.invariant.2) c.append.ensures.permutation in
    rw (← c.self.view_is)
    (subst (λ (ps : List (ℕ × g.row.K.Denot)). IsPermutation ps (map view (heap_items c.append.new.self)))
    (map-append view places added)
    (IsPermutation-map view (places ++ added) (heap_items c.append.new.self) moved))
