use Rattle.std.proofs.Common.{◌≡◌, ◌<◌, ◌≤◌, ◌∷◌, ℕ, get_or, bit_xor}
use Rattle.poly256.specs.Polynomial.{element_product}
use Rattle.rs_code.proofs.marks.add_root.Given as goal

-- what is written, what is still there, and the coefficient before
abbrev pub invariant-loop-k : goal.invariant-loop-k
invariant-loop-k l = record {
  written : (k : ℕ) → k < l.k
      → get_or l.polynomial k 0 ≡ bit_xor (get_or (0 ∷ l.initial.polynomial) k 0) (element_product l.point (get_or l.initial.polynomial k 0));
  left : (k : ℕ) → l.k ≤ k → get_or l.polynomial k 0 ≡ get_or l.initial.polynomial k 0;
  before : l.before ≡ get_or (0 ∷ l.initial.polynomial) l.k 0;
}
