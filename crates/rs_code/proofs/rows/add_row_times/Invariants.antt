use Rattle.std.proofs.Common.{◌≡◌, ◌<◌, ◌+◌, ◌/◌, ◌%◌, ◌^◌, ℕ, get_or, bit_xor}
use Rattle.poly256.specs.Polynomial.{element_product}
use Rattle.rs_code.proofs.rows.add_row_times.Given as goal

-- what is left of the factor, and what its lower bits have added
abbrev pub invariant-loop-bit : goal.invariant-loop-bit
invariant-loop-bit g l = record {
  left : l.rest ≡ l.factor / 2 ^ l.bit;
  written : (k : ℕ) → k < g.row.WIDTH
      → get_or l.list k 0 ≡ bit_xor (get_or l.initial.list k 0) (element_product (l.factor % 2 ^ l.bit) (get_or l.table (l.start + k) 0));
}
