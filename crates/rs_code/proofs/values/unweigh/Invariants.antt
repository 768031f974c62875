use Rattle.std.proofs.Common.{◌≡◌, ◌<◌, ◌≤◌, ℕ, length, get_or, bit_xor}
use Rattle.poly256.specs.Polynomial.{element_product}
use Rattle.rs_code.proofs.values.unweigh.Given as goal

abbrev pub invariant-loop-i : goal.invariant-loop-i
invariant-loop-i l = record {
  long : length l.values ≡ length l.initial.values;
  divided : (k : ℕ) → k < l.i
      → element_product (get_or l.values k 0) (bit_xor (get_or l.points k 0) l.point) ≡ get_or l.initial.values k 0;
  left : (k : ℕ) → l.i ≤ k → get_or l.values k 0 ≡ get_or l.initial.values k 0;
}
