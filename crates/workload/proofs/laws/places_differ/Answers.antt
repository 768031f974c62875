-- Ten times nine is below 92.
use Rattle.std.proofs.Common.{arith}
use Rattle.workload.proofs.laws.places_differ.Goals as goal

pub returns : goal.returns
returns c first t u small other same = omega arith
