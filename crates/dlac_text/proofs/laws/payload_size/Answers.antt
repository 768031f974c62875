use Rattle.dlac_text.proofs.RoundTrip.{length-text_payload, text_payload-bytes}
use Rattle.dlac_text.proofs.laws.payload_size.Goals as goal

pub returns-clause-size : goal.returns-clause-size
returns-clause-size c = length-text_payload

pub returns-clause-bytes : goal.returns-clause-bytes
returns-clause-bytes c = text_payload-bytes
