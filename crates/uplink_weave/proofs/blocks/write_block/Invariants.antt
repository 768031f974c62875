use Rattle.std.proofs.Common.{◌≡◌, ◌+◌, ◌*◌, ◌<◌, ℕ, length, get_or}
use Rattle.uplink_weave.proofs.blocks.write_block.Given as goal

abbrev pub invariant-loop-k : goal.invariant-loop-k
invariant-loop-k l = record {
  long : length l.air ≡ 552;
  bytes : (i : ℕ) → i < l.k → get_or l.air (6 * i + l.number) 0 ≡ get_or l.word i 0;
  before : (lower i : ℕ) → lower < l.number → get_or l.air (6 * i + lower) 0 ≡ get_or l.initial.air (6 * i + lower) 0;
}
