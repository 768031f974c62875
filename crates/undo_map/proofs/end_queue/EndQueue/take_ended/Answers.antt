-- The places are those of the heap, one by one.
use Rattle.std.proofs.Common.{◌<◌, ℕ, map}
use Rattle.std.specs.BinaryHeap.{heap_items}
use Rattle.std.proofs.lemmas.List.Elements.{All-map}
use Rattle.std.proofs.lemmas.List.Sorted.{IsPermutation-map}
use Rattle.undo_map.specs.declared.end_queue.Place.{Place}
use Rattle.undo_map.proofs.PlaceLemmas.{due-taken, first-come, has-left}
use Rattle.undo_map.proofs.end_queue.EndQueue.take_ended.Goals as goal

pub returns-then-not-is_ended-clause-none : goal.returns-then-not-is_ended-clause-none
returns-then-not-is_ended-clause-none g c =
    rw (← c.self.view_is)
    (All-map (λ (p : ℕ × g.row.K.Denot). c.args.now < p.0) (λ (place : Place g.row.K.Denot). (place.end, place.key)) _
    (c.is_ended.ensures.none c.if-not-is_ended.true))

pub returns-clause-taken : goal.returns-clause-taken
returns-clause-taken g c =
    rw (← c.self.view_is)
    (IsPermutation-map (λ (place : Place g.row.K.Denot). (place.end, place.key)) _ _ c.in-Some.ensures.permutation)

pub returns-clause-left : goal.returns-clause-left
returns-clause-left g c =
    has-left (c.in-Some.field-0.end, c.in-Some.field-0.key) c.args.self.now.places
    (map (λ (place : Place g.row.K.Denot). (place.end, place.key)) (heap_items c.pop.new.self)) (returns-clause-taken g c)

pub returns-clause-due : goal.returns-clause-due
returns-clause-due g c =
    due-taken c.args.now (c.in-Some.field-0.end, c.in-Some.field-0.key) c.args.self.now.places
    (map (λ (place : Place g.row.K.Denot). (place.end, place.key)) (heap_items c.pop.new.self))
    (first-come c.args.now (heap_items c.self.inside.places) c.in-Some.field-0 (c.is_ended.ensures.ended c.if-not-is_ended.false)
    c.in-Some.ensures.top)
    (returns-clause-taken g c)
