use Rattle.gdl90_core.proofs.Answering as answering
use Rattle.gdl90_core.proofs.laws.answers_in_order.Goals as goal

pub returns : goal.returns
returns c = answering.answers_in_order
