use Rattle.std.proofs.Common.{◌≡◌, if◌then◌else◌, Some, take}
use Rattle.radar_core.specs.declared.key.BlockKey.{BlockKey}
use Rattle.ground_core.specs.Views.{latest_block, given_view}
use Rattle.ground_core.specs.Rooms.{HasRoom, are_among}
use Rattle.ground_core.proofs.newest_blocks.NewestBlocks.put.Given as goal

abbrev pub invariant-loop-number : goal.invariant-loop-number
invariant-loop-number l = record {
  put : (other : BlockKey) → latest_block l.self other
      ≡ (if are_among l.blocks.area (take l.number-index l.blocks.numbers.items) other then Some (given_view l.given) else latest_block l.fn.self other);
  stays : (other : BlockKey) → HasRoom l.fn.self other → HasRoom l.self other;
}
