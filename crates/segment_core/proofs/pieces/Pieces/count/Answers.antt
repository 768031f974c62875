use Rattle.std.proofs.Common.{arith}
use Rattle.segment_core.proofs.Parts.{parts-hold}
use Rattle.segment_core.proofs.pieces.Pieces.count.Goals as goal

pub part_count-requires : goal.part_count-requires
part_count-requires c =
    let hold = parts-hold c.self.inside.form c.self.inside.payload.now in omega (arith, hold, c.self.invariant.1)
