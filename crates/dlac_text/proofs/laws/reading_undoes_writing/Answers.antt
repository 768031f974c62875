use Rattle.std.proofs.Common.{◌∙◌, [], refl}
use Rattle.dlac_text.proofs.RoundTrip.{reports_of-text_payload, filter-some}
use Rattle.dlac_text.proofs.laws.reading_undoes_writing.Goals as goal

pub returns-clause-text : goal.returns-clause-text
returns-clause-text c = λ text alphabet some. reports_of-text_payload text alphabet ∙ filter-some text some

pub returns-clause-empty : goal.returns-clause-empty
returns-clause-empty c = reports_of-text_payload [] refl
