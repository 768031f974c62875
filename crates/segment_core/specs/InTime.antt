-- A moment is not before the last one exactly where the last one is not above it.
use Rattle.std.proofs.Common.{◌≡◌, ℕ, Option, Some, None, refl, arith}
use Rattle.std.proofs.lemmas.Bool.Decides.{nat_tests}
use Rattle.segment_core.specs.Store.{IsNotBefore, last_above}

pub in_time : (clock : Option ℕ) (moment : ℕ) → IsNotBefore clock moment
    → last_above clock moment ≡ None
in_time None moment below = refl
in_time (Some kept) moment below = grind (arith, nat_tests)

pub not_before : (clock : Option ℕ) (moment : ℕ) → last_above clock moment ≡ None
    → IsNotBefore clock moment
not_before None moment none = tt
not_before (Some kept) moment none = grind (arith, nat_tests)
