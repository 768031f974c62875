-- What six-bit groups are like.
use Rattle.std.proofs.Common.{ℕ, ◌<◌, List, [], ◌∷◌, get_or, arith, suc}
use Rattle.std.specs.List.{AllByRecursion}
use Rattle.dlac_text.specs.SixBits.{six_bit_groups}

abbrev pub IsSixBits : ℕ → Type 0
IsSixBits code = code < 64

by_recursion : (bytes : List ℕ) → ((k : ℕ) → get_or bytes k 0 < 256) → AllByRecursion IsSixBits (six_bit_groups bytes)
by_recursion [] h = tt
by_recursion (x ∷ []) h =
    let x_fits : x < 256 = h 0 in
    (omega arith, tt)
by_recursion (x ∷ y ∷ []) h =
    let x_fits : x < 256 = h 0 in
    let y_fits : y < 256 = h 1 in
    (omega arith, (omega arith, tt))
by_recursion (x ∷ y ∷ z ∷ more) h =
    let x_fits : x < 256 = h 0 in
    let y_fits : y < 256 = h 1 in
    let z_fits : z < 256 = h 2 in
    (omega arith, (omega arith, (omega arith, (omega arith, by_recursion more (λ k. h (suc (suc (suc k))))))))
