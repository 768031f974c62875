use Rattle.poly256.proofs.Divisions.{Divides}
use Rattle.poly256.proofs.room.divide.Given as goal

abbrev pub invariant-loop-top : goal.invariant-loop-top
invariant-loop-top l =
    Divides l.initial.rest l.divisor l.quotient l.rest l.top l.len

abbrev pub decreases-loop-top : goal.decreases-loop-top
decreases-loop-top l = l.top
