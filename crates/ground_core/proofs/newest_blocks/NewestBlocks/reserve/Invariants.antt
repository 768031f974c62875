use Rattle.std.proofs.Common.{◌≡◌, take}
use Rattle.list_members.specs.Membership.{IsIn}
use Rattle.radar_core.specs.declared.key.BlockKey.{BlockKey}
use Rattle.ground_core.specs.Views.{latest_block, area_keys}
use Rattle.ground_core.specs.Rooms.{HasRoom}
use Rattle.ground_core.proofs.newest_blocks.NewestBlocks.reserve.Given as goal

abbrev pub invariant-loop-number : goal.invariant-loop-number
invariant-loop-number l = record {
  same : (other : BlockKey) → latest_block l.self other ≡ latest_block l.fn.self other;
  stays : (other : BlockKey) → HasRoom l.fn.self other → HasRoom l.self other;
  room : (key : BlockKey) → IsIn key (area_keys l.blocks.area (take l.number-index l.blocks.numbers.items)) → HasRoom l.self key;
}
