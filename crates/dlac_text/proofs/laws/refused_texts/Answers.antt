use Rattle.dlac_text.proofs.Refusals.{IsSendable-unrefused}
use Rattle.dlac_text.proofs.laws.refused_texts.Goals as goal

pub returns : goal.returns
returns c = IsSendable-unrefused
