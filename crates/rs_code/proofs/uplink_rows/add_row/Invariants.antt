use Rattle.std.proofs.Common.{◌≡◌, ◌<◌, ◌≤◌, ℕ, length, get_or, bit_xor}
use Rattle.poly256.specs.Polynomial.{element_product}
use Rattle.rs_code.specs.UplinkRows.{uplink_generator}
use Rattle.rs_code.proofs.uplink_rows.add_row.Given as goal

abbrev pub invariant-loop-i : goal.invariant-loop-i
invariant-loop-i l = record {
  long : length l.list ≡ length l.initial.list;
  written : (k : ℕ) → k < l.i
      → get_or l.list k 0 ≡ bit_xor (get_or l.initial.list k 0) (element_product l.byte (get_or uplink_generator k 0));
  left : (k : ℕ) → l.i ≤ k → get_or l.list k 0 ≡ get_or l.initial.list k 0;
}
