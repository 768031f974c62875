use Rattle.std.proofs.Common.{arith, refl}
use Rattle.rs_code.specs.CodeWord.{IsInstance}
use Rattle.rs_code.specs.Instances.{uplink_instance}
use Rattle.rs_code.proofs.laws.distances.Goals as goal

basic : IsInstance 30 12 120
basic = record { even = refl; below = omega arith; short = omega arith; high = omega arith }

long : IsInstance 48 14 120
long = record { even = refl; below = omega arith; short = omega arith; high = omega arith }

pub returns : goal.returns
returns c = record {
  uplink = λ word other code code' apart. c.minimum_distance.ensures 92 20 120 word other uplink_instance code code' apart;
  basic = λ word other code code' apart. c.minimum_distance.ensures 30 12 120 word other basic code code' apart;
  long = λ word other code code' apart. c.minimum_distance.ensures 48 14 120 word other long code code' apart;
}
