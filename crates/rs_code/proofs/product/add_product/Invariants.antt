use Rattle.std.proofs.Common.{◌≡◌, ◌<◌, ◌≤◌, ◌+◌, ℕ, get_or, bit_xor}
use Rattle.poly256.specs.Polynomial.{element_product}
use Rattle.rs_code.proofs.product.add_product.Given as goal

-- what is written, what is before it, and what is still there
abbrev pub invariant-loop-i : goal.invariant-loop-i
invariant-loop-i l = record {
  written : (k : ℕ) → k < l.i
      → get_or l.room (l.place + k) 0
      ≡ bit_xor (get_or l.initial.room (l.place + k) 0) (element_product l.factor (get_or l.polynomial k 0));
  before : (k : ℕ) → k < l.place → get_or l.room k 0 ≡ get_or l.initial.room k 0;
  left : (k : ℕ) → l.place + l.i ≤ k → get_or l.room k 0 ≡ get_or l.initial.room k 0;
}
