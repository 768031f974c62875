use Rattle.std.proofs.Common.{◌≡◌, ◌+◌, ◌*◌, ◌<◌, ℕ, length, get_or}
use Rattle.uplink_weave.proofs.blocks.write_part.Given as goal

abbrev pub invariant-loop-k : goal.invariant-loop-k
invariant-loop-k l = record {
  long : length l.payload ≡ 432;
  bytes : (i : ℕ) → i < l.k → get_or l.payload (72 * l.number + i) 0 ≡ get_or l.word i 0;
  before : (i : ℕ) → i < 72 * l.number → get_or l.payload i 0 ≡ get_or l.initial.payload i 0;
}
