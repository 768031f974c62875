use Rattle.std.proofs.Common.{◌≡◌, drop}
use Rattle.poly256.specs.Polynomial.{sum_of, raised_coefficients, list_product}
use Rattle.poly256.proofs.room.add_product.Given as goal

-- what is in the room and what is left of the product are the sum
abbrev pub invariant-loop-place : goal.invariant-loop-place
invariant-loop-place l =
    sum_of l.room (raised_coefficients l.place (list_product (drop l.place l.first) l.second))
    ≡ sum_of l.initial.room (list_product l.first l.second)
