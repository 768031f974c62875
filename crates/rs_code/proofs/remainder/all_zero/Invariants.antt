use Rattle.std.proofs.Common.{◌≡◌, ◌<◌, ◌≤◌, ◌*◌, ◌↔◌, ℕ, get_or}
use Rattle.rs_code.proofs.remainder.all_zero.Given as goal

abbrev pub invariant-loop-byte : goal.invariant-loop-byte
invariant-loop-byte l = record {
  few : l.total ≤ 255 * l.byte-index;
  zeros : (l.total ≡ 0) ↔ ((k : ℕ) → k < l.byte-index → get_or l.bytes k 0 ≡ 0);
}
