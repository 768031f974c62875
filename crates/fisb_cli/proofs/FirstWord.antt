-- What is left of a list once its first item is taken, if it has one.
use Rattle.std.proofs.Common.{◌≡◌, ℕ, ◌<◌, ◌↔◌, List, [], ◌∷◌, ◌++◌, length, drop, Option, Some, None, IsSome, option_to_list, refl, sym, ap, arith}

pub behind-the-first : {X : Type 0} (first : Option X) (all rest : List X) {size : ℕ}
    → all ≡ option_to_list first ++ rest → size ≡ length all → (IsSome first ↔ (0 < size)) → rest ≡ drop 1 all
behind-the-first (Some x) all rest e long has_first = sym (ap (drop 1) e)
behind-the-first None [] rest e long has_first = sym e
behind-the-first {X} None (x ∷ all) rest e long has_first = let some : IsSome {T = X} None = has_first.1 (omega (arith, long)) in grind arith

-- nothing is left of a list that has no first item
pub none-left : {X : Type 0} (all : List X) {size : ℕ} → size ≡ length all → (IsSome {T = X} None ↔ (0 < size)) → all ≡ []
none-left [] long has_first = refl
none-left {X} (x ∷ all) long has_first = let some : IsSome {T = X} None = has_first.1 (omega (arith, long)) in grind arith
