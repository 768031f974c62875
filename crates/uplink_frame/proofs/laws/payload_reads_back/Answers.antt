use Rattle.uplink_frame.proofs.ReadBack.{reads_back}
use Rattle.uplink_frame.proofs.laws.payload_reads_back.Goals as goal

pub returns : goal.returns
returns c = reads_back
