use Rattle.uplink_weave.proofs.Frames as Frames
use Rattle.uplink_weave.proofs.laws.burst_is_spread.Goals as goal

pub returns : goal.returns
returns c = Frames.burst_is_spread c.differences_laws.ensures
