use Rattle.std.proofs.Common.{◌∙◌}
use Rattle.life_table.proofs.Finding.{radar_stands}
use Rattle.life_table.proofs.rows.has_radar.Goals as goal

pub returns : goal.returns
returns c = c.is_some.ensures ∙ radar_stands c.args.product c.args.rows.now c.radar_of.result c.radar_of.ensures
