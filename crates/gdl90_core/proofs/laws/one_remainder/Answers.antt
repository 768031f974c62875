use Rattle.gdl90_core.proofs.LongDivision as division
use Rattle.gdl90_core.proofs.laws.one_remainder.Goals as goal

pub returns : goal.returns
returns c = division.one_remainder
