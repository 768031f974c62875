use Rattle.std.proofs.Common.{length}
use Rattle.rs_code.proofs.values.+solve.Given as goal

abbrev pub decreases-solve : goal.decreases-solve
decreases-solve l = length l.points.now
