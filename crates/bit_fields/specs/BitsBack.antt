-- A flag as a number, and back.
use Rattle.std.proofs.Common.{◌≡◌, ℕ, zero, suc, ◌<◌, ◌==◌, Bool, true, false, refl, ap}
use Rattle.std.proofs.Common.{arith}
use Rattle.bit_fields.specs.Bits.{bit}

pub bit_below : (b : Bool) → bit b < 2
bit_below true = omega arith
bit_below false = omega arith

pub bit_back : (b : Bool) (n : ℕ) → n ≡ bit b → (n == 1) ≡ b
bit_back true n e = ap (λ m. m == 1) e
bit_back false n e = ap (λ m. m == 1) e

pub bit_of_test : (n : ℕ) → n < 2 → bit (n == 1) ≡ n
bit_of_test zero small = refl
bit_of_test (suc zero) small = refl
bit_of_test (suc (suc n)) small = absurd (omega arith)
