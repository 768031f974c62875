use Rattle.dlac_text.proofs.ShownTexts.{text_of_plain-IsUtf8}
use Rattle.dlac_text.proofs.laws.shown_texts.Goals as goal

pub returns : goal.returns
returns c = text_of_plain-IsUtf8
