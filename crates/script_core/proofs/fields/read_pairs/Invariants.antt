use Rattle.std.proofs.Common.{◌≡◌, ◌+◌, ◌*◌, ◌%◌, ◌<◌, ◌≤◌, ℕ, length, get_or}
use Rattle.script_core.proofs.HexPairs.{value_of}
use Rattle.script_core.proofs.fields.read_pairs.Given as goal

abbrev pub invariant-loop-place : goal.invariant-loop-place
invariant-loop-place l = record {
  long : length l.bytes ≡ length l.initial.bytes;
  made : (k : ℕ) → k < l.place → get_or l.bytes k 0
      ≡ (value_of (get_or l.digits (2 * k) 0) * 16 + value_of (get_or l.digits (2 * k + 1) 0)) % 256;
  above : (k : ℕ) → k < 2 * l.place → value_of (get_or l.digits k 0) ≤ l.greatest;
  reached : 16 ≤ l.greatest → (k : ℕ) × (k < 2 * l.place) × (16 ≤ value_of (get_or l.digits k 0));
}
