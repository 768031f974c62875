-- The new place is the key's, at the end of the value.
use Rattle.std.proofs.Common.{◌≡◌, ℕ, ◌≤◌, ◌&&◌, true, nat_le, Bool, arith, refl, subst, sym, ap, ◌∙◌, length, List}
use Rattle.std.specs.Ordering.{is_eq}
use Rattle.std.proofs.lemmas.Bool.{le-leb}
use Rattle.std.proofs.lemmas.List.Sorted.{length_permutation}
use Rattle.undo_map.proofs.lasting.insert_step.Goals as goal

pub returns-clause-few_ok : goal.returns-clause-few_ok
returns-clause-few_ok g c =
    let more = length_permutation _ _ c.add.ensures.added in
    let places = ap (λ (ps : List (ℕ × g.row.K.Denot)). length ps) (c.add.ensures.places ∙ c.reserve.ensures.places) in
    let added = ap (λ (ps : List (ℕ × g.row.K.Denot)). length ps) c.reserve.ensures.added in
    omega (arith, more, places, added)

pub returns-clause-placed : goal.returns-clause-placed
returns-clause-placed g c = λ k same.
    let end : c.end-end.result ≤ g.V.Lasting.end c.args.value = omega (arith, c.end-end.ensures) in
    let key = subst (λ (q : g.row.K.Denot). is_eq (g.K.Ord.cmp q k) ≡ true) (sym c.in_ok-place.ensures) same in
    let test : ℕ × g.row.K.Denot → Bool = λ place. is_eq (g.K.Ord.cmp place.1 k) && nat_le place.0 (g.V.Lasting.end c.args.value) in
    c.add.ensures.has test (rw (key, le-leb c.end-end.result (g.V.Lasting.end c.args.value) end) refl)
