use Rattle.segment_core.specs.HeldPieces.{bytes_at}
use Rattle.segment_core.proofs.Ranges.{joined_more}
use Rattle.segment_core.proofs.held.join_pieces.Goals as goal

pub loop-index-preserved : goal.loop-index-preserved
loop-index-preserved c =
    joined_more (bytes_at c.args.pieces.now.entries c.args.name.now c.args.payload.now) c.loop-index.index _ _ _
    c.in_ok-extend_from_slice.ensures.items c.loop-index.invariant c.bytes_at.ensures
