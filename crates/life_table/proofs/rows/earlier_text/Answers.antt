use Rattle.life_table.proofs.Finding.{text_earlier}
use Rattle.life_table.proofs.rows.earlier_text.Goals as goal

pub returns : goal.returns
returns c = text_earlier c.args.word.now c.args.rows.now c.text_of.result c.text_of.ensures
