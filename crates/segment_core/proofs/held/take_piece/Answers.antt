use Rattle.std.proofs.Common.{◌≡◌, ℕ, List, ◌∙◌, ap, arith, length, sym, subst, refl}
use Rattle.std.proofs.lemmas.List.Sorted.{length_permutation}
use Rattle.undo_map.specs.Ends.{KeepsPlaces, all_places}
use Rattle.segment_core.specs.declared.piece_name.PieceName.{PieceName}
use Rattle.segment_core.proofs.PieceNames.{whole-held, waits-held}
use Rattle.segment_core.proofs.Places.{absent-found, own-held, place-added, places-with}
use Rattle.segment_core.proofs.held.take_piece.Goals as goal

pub returns-in_ok-write_all-clause-pieces : goal.returns-in_ok-write_all-clause-pieces
returns-in_ok-write_all-clause-pieces c =
    whole-held c.stations_are_told.ensures c.args.pieces.now.entries c.write_all.new.self.entries c.in_ok-numbers_alone.field-0.items c.args.name
    c.args.payload.now
    (sym c.is_held.ensures ∙ c.if-is_held.false) (sym c.are_others_held.ensures ∙ c.if-are_others_held.true)
    c.in_ok-write_all.ensures.ok c.in_ok-numbers_alone.ensures

pub returns-in_ok-write-clause-pieces : goal.returns-in_ok-write-clause-pieces
returns-in_ok-write-clause-pieces c =
    waits-held c.stations_are_told.ensures c.args.pieces.now.entries c.write.new.self.entries c.args.name c.args.payload.now c.in_ok-bytes.bytes
    (sym c.is_held.ensures ∙ c.if-is_held.false) (sym c.are_others_held.ensures ∙ c.if-are_others_held.false)
    c.in_ok-write.ensures.ok c.in_ok-bytes.ensures

pub returns-in_ok-write_all-clause-placed : goal.returns-in_ok-write_all-clause-placed
returns-in_ok-write_all-clause-placed c = λ placed.
    let same : all_places c.reserve.new.self ≡ all_places c.args.ends.now = rw (c.reserve.ensures.places, c.reserve.ensures.added) refl in
    let kept = subst (λ (ps : List (ℕ × PieceName)). KeepsPlaces ps (all_places c.add.new.self)) same c.add.ensures.kept in
    places-with c.stations_are_told.ensures c.args.longest.now (all_places c.args.ends.now) (all_places c.add.new.self)
    c.args.pieces.now.entries c.write_all.new.self.entries c.args.name c.args.payload.now (returns-in_ok-write_all-clause-pieces c) kept
    (place-added c.stations_are_told.ensures c.args.longest.now c.end_of-end.result c.args.name (all_places c.add.new.self)
    c.end_of-end.ensures.before c.add.ensures.has) placed

pub returns-in_ok-write-clause-placed : goal.returns-in_ok-write-clause-placed
returns-in_ok-write-clause-placed c = λ placed.
    let same : all_places c.reserve.new.self ≡ all_places c.args.ends.now = rw (c.reserve.ensures.places, c.reserve.ensures.added) refl in
    let kept = subst (λ (ps : List (ℕ × PieceName)). KeepsPlaces ps (all_places c.add-else-are_others_held.new.self)) same c.add-else-are_others_held.ensures.kept in
    places-with c.stations_are_told.ensures c.args.longest.now (all_places c.args.ends.now) (all_places c.add-else-are_others_held.new.self)
    c.args.pieces.now.entries c.write.new.self.entries c.args.name c.args.payload.now (returns-in_ok-write-clause-pieces c) kept
    (place-added c.stations_are_told.ensures c.args.longest.now c.end_of-end.result c.args.name (all_places c.add-else-are_others_held.new.self)
    c.end_of-end.ensures.before c.add-else-are_others_held.ensures.has) placed

pub returns-in_ok-write_all-clause-few : goal.returns-in_ok-write_all-clause-few
returns-in_ok-write_all-clause-few c =
    let fresh = sym c.is_held.ensures ∙ c.if-is_held.false in
    let others = sym c.are_others_held.ensures ∙ c.if-are_others_held.true in
    let added = length_permutation _ _ c.add.ensures.added in
    let places = ap (λ (ps : List (ℕ × PieceName)). length ps) (c.add.ensures.places ∙ c.reserve.ensures.places) in
    let was = ap (λ (ps : List (ℕ × PieceName)). length ps) c.reserve.ensures.added in
    let more = c.in_ok-write_all.ensures.more c.args.name (absent-found c.args.name c.args.pieces.now.entries fresh)
    (own-held c.stations_are_told.ensures c.args.pieces.now.entries c.write_all.new.self.entries c.args.name c.args.payload.now
    c.requires.numbered fresh others (returns-in_ok-write_all-clause-pieces c c.args.name)) in
    omega (arith, added, places, was, more)

pub returns-in_ok-write-clause-few : goal.returns-in_ok-write-clause-few
returns-in_ok-write-clause-few c =
    let fresh = sym c.is_held.ensures ∙ c.if-is_held.false in
    let added = length_permutation _ _ c.add-else-are_others_held.ensures.added in
    let places = ap (λ (ps : List (ℕ × PieceName)). length ps) (c.add-else-are_others_held.ensures.places ∙ c.reserve.ensures.places) in
    let was = ap (λ (ps : List (ℕ × PieceName)). length ps) c.reserve.ensures.added in
    let more = c.in_ok-write.ensures.more (absent-found c.args.name c.args.pieces.now.entries fresh) in
    omega (arith, added, places, was, more)
