use Rattle.std.proofs.Common.{◌≡◌, ◌<◌, ◌≤◌, ◌+◌, ℕ, suc, get_or, bit_xor}
use Rattle.poly256.specs.Polynomial.{element_product}
use Rattle.rs_code.proofs.marks.add_next.Given as goal

-- what is written, and what is still there
abbrev pub invariant-loop-k : goal.invariant-loop-k
invariant-loop-k l = record {
  written : (k : ℕ) → k + 1 < l.k
      → get_or l.sums k 0 ≡ bit_xor (get_or l.initial.sums (suc k) 0) (element_product l.point (get_or l.initial.sums k 0));
  left : (k : ℕ) → l.k ≤ k + 1 → get_or l.sums k 0 ≡ get_or l.initial.sums k 0;
}
