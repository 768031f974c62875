-- So many cells are written.
use Rattle.std.proofs.Common.{◌≡◌, ◌/◌, length, take, map, slice_index}
use Rattle.std.specs.List.{range_with_len}
use Rattle.workload.proofs.drawing.spread.Given as goal

abbrev pub invariant-loop-place : goal.invariant-loop-place
invariant-loop-place l =
    (length l.cells ≡ 128)
    × (take l.place l.cells ≡ map (λ cell. slice_index l.intensities (cell / 8)) (range_with_len 0 l.place))
