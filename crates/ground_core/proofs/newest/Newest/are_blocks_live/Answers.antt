use Rattle.std.proofs.Common.{sym, ◌∙◌}
use Rattle.picture_core.specs.Key.{Key, radar_block}
use Rattle.ground_core.specs.Piece.{lives_as}
use Rattle.ground_core.specs.Views.{area_keys, latest_at}
use Rattle.ground_core.proofs.ListLemmas.{list_any-map}
use Rattle.ground_core.proofs.newest.Newest.are_blocks_live.Goals as goal

pub returns : goal.returns
returns c = c.is_any_live.ensures
    ∙ sym (list_any-map (λ (key : Key). lives_as c.args.moment c.args.serial (latest_at c.args.self.now key)) radar_block (area_keys c.args.blocks.now.area c.args.blocks.now.numbers.items))
