use Rattle.std.proofs.Common.{◌≡◌, ◌+◌, ◌*◌, ◌<◌, ℕ, length, get_or}
use Rattle.uplink_weave.proofs.blocks.read_part.Given as goal

abbrev pub invariant-loop-k : goal.invariant-loop-k
invariant-loop-k l = record {
  long : length l.word ≡ 92;
  bytes : (i : ℕ) → i < l.k → get_or l.word i 0 ≡ get_or l.payload (72 * l.number + i) 0;
}
