use Rattle.dlac_text.proofs.SixBitFields.{groups_are_read, packed_are_written}
use Rattle.dlac_text.proofs.laws.codes_are_fields.Goals as goal

pub returns-clause-read : goal.returns-clause-read
returns-clause-read c = groups_are_read

pub returns-clause-written : goal.returns-clause-written
returns-clause-written c = packed_are_written
