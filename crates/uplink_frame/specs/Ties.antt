-- What a tie of two flags says.
use Rattle.std.specs.Prelude.{◌≡◌, Bool, true, false, refl}
use Rattle.std.specs.Ordering.{bool_cmp, is_eq}
use Rattle.uplink_frame.specs.Station.{same_flag}

pub tied_flags : (a b : Bool) → same_flag a b ≡ is_eq (bool_cmp a b)
tied_flags true true = refl
tied_flags true false = refl
tied_flags false true = refl
tied_flags false false = refl
