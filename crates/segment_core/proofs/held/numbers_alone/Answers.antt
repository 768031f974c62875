use Rattle.segment_core.proofs.PieceNames.{alone_more}
use Rattle.segment_core.proofs.held.numbers_alone.Goals as goal

pub loop-index-preserved : goal.loop-index-preserved
loop-index-preserved c =
    alone_more c.args.name.now c.loop-index.index _ _ c.with_number.result
    c.in_ok-push.ensures.items c.loop-index.invariant c.with_number.ensures
