use Rattle.std.proofs.Common.{◌≡◌, ◌+◌, ◌*◌, ◌<◌, ℕ, length, get_or}
use Rattle.uplink_weave.proofs.blocks.read_block.Given as goal

abbrev pub invariant-loop-k : goal.invariant-loop-k
invariant-loop-k l = record {
  long : length l.word ≡ 92;
  bytes : (i : ℕ) → i < l.k → get_or l.word i 0 ≡ get_or l.air (6 * i + l.number) 0;
}
