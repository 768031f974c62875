use Rattle.std.proofs.Common.{if◌then◌else◌, Some, ap, ◌∙◌}
use Rattle.radar_core.specs.declared.key.BlockKey.{BlockKey}
use Rattle.ground_core.specs.Rooms.{are_among}
use Rattle.ground_core.specs.Views.{given_view}
use Rattle.ground_core.proofs.Areas.{changed_blocks}
use Rattle.ground_core.proofs.newest.Newest.put_blocks.Goals as goal

pub returns-clause-ok : goal.returns-clause-ok
returns-clause-ok c = changed_blocks c.args.self.now c.put.new.self c.args.blocks.now (λ latest. Some (given_view c.args.given.now))
    (λ (k : BlockKey). c.put.ensures.put k
    ∙ ap (λ o. if are_among c.args.blocks.now.area c.args.blocks.now.numbers.items k then Some (given_view c.args.given.now) else o) (c.reserve.ensures.same k))
