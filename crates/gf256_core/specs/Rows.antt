-- The rows of a table of powers are the powers of the element x, which is 2.
use Rattle.std.proofs.Common.{◌≡◌, ℕ, zero, suc, ◌+◌, ◌<◌, List, get_or, ◌∙◌, ap, arith}
use Rattle.gf256_core.specs.Field.{product, power}
use Rattle.gf256_core.specs.Tables.{AreTables}

pub row_is_power :
    (modulus : ℕ) (powers logarithms : List ℕ) → AreTables modulus powers logarithms
    → (i : ℕ) → i < 255 → get_or powers i 0 ≡ power modulus 2 i
unfolding power
row_is_power modulus powers logarithms t zero h = t.first
row_is_power modulus powers logarithms t (suc i) h =
    ap (λ (k : ℕ). get_or powers k 0) (let e : suc i ≡ i + 1 = omega arith in e)
    ∙ t.next i (omega arith)
    ∙ ap (λ (x : ℕ). product modulus x 2) (row_is_power modulus powers logarithms t i (omega arith))
