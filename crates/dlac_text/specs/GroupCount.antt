-- How many six-bit groups some bytes have.
use Rattle.std.proofs.Common.{◌≡◌, ℕ, ◌*◌, ◌/◌, List, [], ◌∷◌, length, refl, arith}
use Rattle.dlac_text.specs.SixBits.{six_bit_groups}

pub length-six_bit_groups : (bytes : List ℕ) → length (six_bit_groups bytes) ≡ 8 * length bytes / 6
length-six_bit_groups [] = refl
length-six_bit_groups (x ∷ []) = refl
length-six_bit_groups (x ∷ y ∷ []) = refl
length-six_bit_groups (x ∷ y ∷ z ∷ more) = let rest = length-six_bit_groups more in omega arith
