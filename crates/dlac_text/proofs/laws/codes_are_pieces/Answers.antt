use Rattle.dlac_text.proofs.PieceLemmas.{one_way, reports_of-pieces}
use Rattle.dlac_text.proofs.laws.codes_are_pieces.Goals as goal

pub returns-clause-one_way : goal.returns-clause-one_way
returns-clause-one_way c = one_way

pub returns-clause-reports : goal.returns-clause-reports
returns-clause-reports c = reports_of-pieces
