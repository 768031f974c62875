use Rattle.dlac_text.proofs.PlainLemmas.{text_of_plain-plain_text}
use Rattle.dlac_text.proofs.laws.plain_text_reads_back.Goals as goal

pub returns : goal.returns
returns c = text_of_plain-plain_text
