use Rattle.std.proofs.Common.{◌≡◌, if◌then◌else◌, take}
use Rattle.radar_core.specs.declared.key.BlockKey.{BlockKey}
use Rattle.ground_core.specs.Piece.{while_living}
use Rattle.ground_core.specs.Views.{latest_block}
use Rattle.ground_core.specs.Rooms.{are_among}
use Rattle.ground_core.proofs.newest_blocks.NewestBlocks.forget.Given as goal

abbrev pub invariant-loop-number : goal.invariant-loop-number
invariant-loop-number l = record {
  forgotten : (other : BlockKey) → latest_block l.self other
      ≡ (if are_among l.blocks.area (take l.number-index l.blocks.numbers.items) other
      then while_living l.moment (latest_block l.fn.self other) else latest_block l.fn.self other);
}
