use Rattle.std.proofs.Common.{◌≡◌, List, ℕ, arith, ap, sym, ◌∙◌, ◌+◌, get_or, drop}
use Rattle.poly256.specs.Polynomial.{sum_of, raised_coefficients, scaled_coefficients, list_product}
use Rattle.poly256.proofs.Rooms.{raised_coefficients-zero, product_step, product_end}
use Rattle.poly256.proofs.room.add_product.Goals as goal

pub loop-place-init : goal.loop-place-init
loop-place-init c = ap (sum_of c.args.room.now) (raised_coefficients-zero (list_product c.args.first.now c.args.second.now))

pub loop-place-preserved : goal.loop-place-preserved
loop-place-preserved c =
    let added : c.add_multiple.new.room
    ≡ sum_of c.loop-place.room (raised_coefficients c.loop-place.place (scaled_coefficients (get_or c.args.first.now c.loop-place.place 0) c.args.second.now)) =
    c.add_multiple.ensures
    ∙ ap (λ (x : ℕ). sum_of c.loop-place.room (raised_coefficients c.loop-place.place (scaled_coefficients x c.args.second.now))) c.of.ensures.value in
    ap (λ (xs : List ℕ). sum_of xs
    (raised_coefficients (c.loop-place.place + 1) (list_product (drop (c.loop-place.place + 1) c.args.first.now) c.args.second.now)))
    added
    ∙ product_step c.loop-place.room c.args.first.now c.args.second.now c.loop-place.place (omega arith)
    ∙ c.loop-place.invariant

pub returns : goal.returns
returns c =
    sym (product_end c.loop-place.room c.args.first.now c.args.second.now c.loop-place.place (omega arith)) ∙ c.loop-place.invariant
