use Rattle.std.proofs.Common.{◌≡◌, map, None}
use Rattle.std.specs.List.{range_with_len}
use Rattle.segment_core.specs.Kept.{with_number}
use Rattle.segment_core.proofs.held.numbers_alone.Given as goal

abbrev pub invariant-loop-index : goal.invariant-loop-index
invariant-loop-index l = l.pairs.items ≡ map (λ number. (with_number l.name number, None)) (range_with_len 1 l.index)
