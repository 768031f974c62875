use Rattle.segment_core.proofs.Parts.{parts-few, parts-text}
use Rattle.segment_core.proofs.laws.parts_are_few.Goals as goal

pub returns-clause-few : goal.returns-clause-few
returns-clause-few c = parts-few

pub returns-clause-texts : goal.returns-clause-texts
returns-clause-texts c = parts-text
