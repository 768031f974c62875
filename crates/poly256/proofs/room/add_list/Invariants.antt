use Rattle.std.proofs.Common.{◌≡◌, drop}
use Rattle.poly256.specs.Polynomial.{sum_of, raised_coefficients}
use Rattle.poly256.proofs.room.add_list.Given as goal

-- what is in the room and what is left of the list are the sum
abbrev pub invariant-loop-i : goal.invariant-loop-i
invariant-loop-i l = sum_of l.room (raised_coefficients l.i (drop l.i l.list)) ≡ sum_of l.initial.room l.list
