use Rattle.std.proofs.Common.{◌≡◌, ◌+◌, ◌-◌, ◌*◌}
use Rattle.radar_core.specs.Ranks.{rank_of}
use Rattle.radar_core.proofs.bitmap.offset_at.Given as goal

abbrev pub invariant-loop-place : goal.invariant-loop-place
invariant-loop-place l = l.left + rank_of l.bitmap (8 * l.place - 3) ≡ l.fn.rank
