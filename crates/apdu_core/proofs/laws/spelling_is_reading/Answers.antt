use Rattle.apdu_core.proofs.ApduLemmas.{reading_of}
use Rattle.apdu_core.proofs.laws.spelling_is_reading.Goals as goal

pub returns : goal.returns
returns c = reading_of
