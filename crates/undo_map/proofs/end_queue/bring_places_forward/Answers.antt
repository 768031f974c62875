-- What is kept are the places that are none of the key's behind the second.
use Rattle.std.proofs.Common.{◌<◌, ◌≤◌, ◌≡◌, filter, length, map, rules, arith}
use Rattle.std.specs.BinaryHeap.{heap_items, heap_len}
use Rattle.std.proofs.lemmas.Fn.{filter_same}
use Rattle.undo_map.specs.declared.end_queue.Place.{Place}
use Rattle.undo_map.proofs.ForwardLemmas.{forward-kept, forward-sooner, length-left, moves-left, moves-pushed, none-kept, none-sooner, stays}
use Rattle.undo_map.proofs.PlaceLemmas.{at-ok}
use Rattle.undo_map.proofs.end_queue.bring_places_forward.Goals as goal

pub returns-then-as_slice-before-clause-kept : goal.returns-then-as_slice-before-clause-kept
returns-then-as_slice-before-clause-kept g c =
    let R = g.K.Ord.cmp in
    let old = heap_items c.args.places.now in
    let left = heap_items c.retain.new.self in
    let kept = c.retain.ensures.filtered in
    let is : kept.0 ≡ filter (stays R c.args.second c.args.key) old = filter_same _ _ _ (λ x b f' k. search rules) _ _ kept.1 in
    let fewer : heap_len c.retain.new.self < heap_len c.args.places.now =
    omega (arith, c.if-as_slice-before.true, c.as_slice.ensures.len, c.as_slice-before.ensures.len) in
    let room : heap_len c.retain.new.self < c.retain.new.self.data.cap = omega (arith, fewer, c.retain.ensures.capacity, c.requires.fits) in
    let pushed = at-ok c.push.result (c.push.ensures.succeeds room) c.push.ensures.permutation in
    forward-kept R g.met.K.Ord.total c.args.second c.args.key old
    (map (λ (place : Place g.row.K.Denot). (place.end, place.key)) (heap_items c.push.new.self))
    (moves-pushed (stays R c.args.second c.args.key) (record { end = c.args.second; key = c.args.key }) old kept.0 left
    (heap_items c.push.new.self) is kept.2 pushed)

pub returns-then-as_slice-before-clause-sooner : goal.returns-then-as_slice-before-clause-sooner
returns-then-as_slice-before-clause-sooner g c =
    let R = g.K.Ord.cmp in
    let old = heap_items c.args.places.now in
    let left = heap_items c.retain.new.self in
    let kept = c.retain.ensures.filtered in
    let is : kept.0 ≡ filter (stays R c.args.second c.args.key) old = filter_same _ _ _ (λ x b f' k. search rules) _ _ kept.1 in
    let fewer : heap_len c.retain.new.self < heap_len c.args.places.now =
    omega (arith, c.if-as_slice-before.true, c.as_slice.ensures.len, c.as_slice-before.ensures.len) in
    let room : heap_len c.retain.new.self < c.retain.new.self.data.cap = omega (arith, fewer, c.retain.ensures.capacity, c.requires.fits) in
    let pushed = at-ok c.push.result (c.push.ensures.succeeds room) c.push.ensures.permutation in
    forward-sooner R c.args.second c.args.key
    (map (λ (place : Place g.row.K.Denot). (place.end, place.key)) old)
    (map (λ (place : Place g.row.K.Denot). (place.end, place.key)) (filter (stays R c.args.second c.args.key) old))
    (map (λ (place : Place g.row.K.Denot). (place.end, place.key)) (heap_items c.push.new.self))
    (moves-pushed (stays R c.args.second c.args.key) (record { end = c.args.second; key = c.args.key }) old kept.0 left
    (heap_items c.push.new.self) is kept.2 pushed)

pub returns-else-as_slice-before-clause-kept : goal.returns-else-as_slice-before-clause-kept
returns-else-as_slice-before-clause-kept g c =
    let R = g.K.Ord.cmp in
    let old = heap_items c.args.places.now in
    let left = heap_items c.retain.new.self in
    let kept = c.retain.ensures.filtered in
    let is : kept.0 ≡ filter (stays R c.args.second c.args.key) old = filter_same _ _ _ (λ x b f' k. search rules) _ _ kept.1 in
    let same = length-left (stays R c.args.second c.args.key) old kept.0 left is kept.2 in
    let all : length old ≤ length (filter (stays R c.args.second c.args.key) old) =
    rw (← same) (rw (← c.as_slice.ensures.value, ← c.as_slice-before.ensures.value) (omega (arith, c.if-as_slice-before.false))) in
    none-kept R g.met.K.Ord.total c.args.second c.args.key old
    (map (λ (place : Place g.row.K.Denot). (place.end, place.key)) left)
    (moves-left (stays R c.args.second c.args.key) old kept.0 left is kept.2) all

pub returns-else-as_slice-before-clause-sooner : goal.returns-else-as_slice-before-clause-sooner
returns-else-as_slice-before-clause-sooner g c =
    let R = g.K.Ord.cmp in
    let old = heap_items c.args.places.now in
    let left = heap_items c.retain.new.self in
    let kept = c.retain.ensures.filtered in
    let is : kept.0 ≡ filter (stays R c.args.second c.args.key) old = filter_same _ _ _ (λ x b f' k. search rules) _ _ kept.1 in
    let same = length-left (stays R c.args.second c.args.key) old kept.0 left is kept.2 in
    let all : length old ≤ length (filter (stays R c.args.second c.args.key) old) =
    rw (← same) (rw (← c.as_slice.ensures.value, ← c.as_slice-before.ensures.value) (omega (arith, c.if-as_slice-before.false))) in
    none-sooner R g.met.K.Ord.total c.args.second c.args.key old
    (map (λ (place : Place g.row.K.Denot). (place.end, place.key)) left)
    (moves-left (stays R c.args.second c.args.key) old kept.0 left is kept.2) all
