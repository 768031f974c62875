use Rattle.std.proofs.Common.{refl}
use Rattle.ground_core.proofs.Turns.{pushed_pieces, pushed_others}
use Rattle.ground_core.proofs.line.Line.push_all.Goals as goal

pub loop-number-preserved : goal.loop-number-preserved
loop-number-preserved c = record {
  pieces = pushed_pieces c.args.item.now.value c.args.self.now.places.items c.loop-number.self.places.items c.push_back.new.self.items _ c.loop-number.number
      c.in_ok-clone.ensures.cases refl c.in-Ok.ensures.items c.loop-number.invariant.pieces;
  others = pushed_others c.args.self.now.places.items c.loop-number.self.places.items c.push_back.new.self.items _
      c.in-Ok.ensures.items c.loop-number.invariant.others;
}
