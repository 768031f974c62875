use Rattle.std.proofs.Common.{◌∙◌}
use Rattle.life_table.proofs.Finding.{text_stands}
use Rattle.life_table.proofs.rows.has_text.Goals as goal

pub returns : goal.returns
returns c = c.is_some.ensures ∙ text_stands c.args.word.now c.args.rows.now c.text_of.result c.text_of.ensures
