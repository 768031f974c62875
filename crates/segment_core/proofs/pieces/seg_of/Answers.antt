use Rattle.std.proofs.Common.{arith}
use Rattle.segment_core.proofs.Parts.{parts-hold}
use Rattle.segment_core.proofs.pieces.seg_of.Goals as goal

pub part_count-requires : goal.part_count-requires
part_count-requires c = let hold = parts-hold c.args.form c.args.payload.now in omega (arith, hold, c.requires)
