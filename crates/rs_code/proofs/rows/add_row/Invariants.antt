use Rattle.std.proofs.Common.{◌≡◌, ◌<◌, ◌≤◌, ◌+◌, ℕ, length, get_or, bit_xor}
use Rattle.rs_code.proofs.rows.add_row.Given as goal

abbrev pub invariant-loop-k : goal.invariant-loop-k
invariant-loop-k g l = record {
  long : length l.list ≡ g.row.WIDTH;
  written : (k : ℕ) → k < l.k → get_or l.list k 0 ≡ bit_xor (get_or l.initial.list k 0) (get_or l.table (l.start + k) 0);
  left : (k : ℕ) → l.k ≤ k → get_or l.list k 0 ≡ get_or l.initial.list k 0;
}
