-- The code of the uplink's blocks is an instance: its roots are few enough for its words.
use Rattle.std.proofs.Common.{arith, refl}
use Rattle.rs_code.specs.CodeWord.{IsInstance}

pub uplink_instance : IsInstance 92 20 120
uplink_instance =
    record { even = refl; below = omega arith; short = omega arith; high = omega arith }
