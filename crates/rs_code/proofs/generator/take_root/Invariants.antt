use Rattle.std.proofs.Common.{◌≡◌, ◌<◌, ◌≤◌, ℕ, ◌∷◌, get_or, bit_xor}
use Rattle.poly256.specs.Polynomial.{element_product}
use Rattle.rs_code.proofs.generator.take_root.Given as goal

-- what is written, what is still there, and the coefficient before
abbrev pub invariant-loop-k : goal.invariant-loop-k
invariant-loop-k l = record {
  written : (i : ℕ) → i < l.k
      → get_or l.coefficients i 0
      ≡ bit_xor (get_or l.initial.coefficients i 0) (element_product l.root (get_or (1 ∷ l.initial.coefficients) i 0));
  left : (i : ℕ) → l.k ≤ i → get_or l.coefficients i 0 ≡ get_or l.initial.coefficients i 0;
  before : l.above ≡ get_or (1 ∷ l.initial.coefficients) l.k 0;
}
