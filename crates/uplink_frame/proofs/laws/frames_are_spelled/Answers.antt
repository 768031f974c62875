use Rattle.uplink_frame.proofs.Spelled.{frames_are_spelled}
use Rattle.uplink_frame.proofs.laws.frames_are_spelled.Goals as goal

pub returns : goal.returns
returns c = frames_are_spelled
