use Rattle.std.proofs.Common.{◌≡◌, ◌<◌, ◌≤◌, ℕ, ◌∷◌, get_or, bit_xor}
use Rattle.poly256.specs.Polynomial.{element_product}
use Rattle.rs_code.proofs.values.weigh.Given as goal

-- what is written, what is still there, and the sum before
abbrev pub invariant-loop-i : goal.invariant-loop-i
invariant-loop-i l = record {
  written : (k : ℕ) → k < l.i
      → get_or l.sums k 0 ≡ bit_xor (get_or l.initial.sums k 0) (element_product l.point (get_or (0 ∷ l.initial.sums) k 0));
  left : (k : ℕ) → l.i ≤ k → get_or l.sums k 0 ≡ get_or l.initial.sums k 0;
  before : l.before ≡ get_or (0 ∷ l.initial.sums) l.i 0;
}
