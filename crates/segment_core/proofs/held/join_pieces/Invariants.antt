use Rattle.std.proofs.Common.{◌≡◌, flat_map}
use Rattle.std.specs.List.{range_with_len}
use Rattle.segment_core.specs.HeldPieces.{bytes_at}
use Rattle.segment_core.proofs.held.join_pieces.Given as goal

abbrev pub invariant-loop-index : goal.invariant-loop-index
invariant-loop-index l = l.bytes.items ≡ flat_map (bytes_at l.pieces.entries l.name l.payload) (range_with_len 1 l.index)
