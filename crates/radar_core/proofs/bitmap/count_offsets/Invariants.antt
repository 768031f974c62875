use Rattle.std.proofs.Common.{◌≡◌, ◌-◌, ◌*◌, ◌≤◌}
use Rattle.radar_core.specs.Ranks.{rank_of}
use Rattle.radar_core.proofs.bitmap.count_offsets.Given as goal

-- so many are named below the byte's first offset
abbrev pub invariant-loop-place : goal.invariant-loop-place
invariant-loop-place l = record { is : l.count ≡ rank_of l.bitmap (8 * l.place - 3); most : l.count ≤ 8 * l.place }
