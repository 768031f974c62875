use Rattle.std.proofs.Common.{◌≡◌, ◌+◌}
use Rattle.radar_core.specs.Ranks.{ones_below}
use Rattle.radar_core.proofs.bitmap.bit_of_rank.Given as goal

abbrev pub invariant-loop-bit : goal.invariant-loop-bit
invariant-loop-bit l = l.left + ones_below l.names l.bit ≡ l.fn.rank
