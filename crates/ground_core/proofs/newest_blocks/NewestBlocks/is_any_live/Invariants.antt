use Rattle.std.proofs.Common.{◌≡◌, false, take}
use Rattle.std.specs.List.{list_any}
use Rattle.ground_core.specs.Piece.{lives_as}
use Rattle.ground_core.specs.Views.{latest_block, area_keys}
use Rattle.ground_core.proofs.newest_blocks.NewestBlocks.is_any_live.Given as goal

abbrev pub invariant-loop-number : goal.invariant-loop-number
invariant-loop-number l = record {
  none : list_any (λ key. lives_as l.moment l.serial (latest_block l.self key)) (area_keys l.blocks.area (take l.number-index l.blocks.numbers.items)) ≡ false;
}
