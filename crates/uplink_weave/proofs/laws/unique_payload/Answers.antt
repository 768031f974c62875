use Rattle.uplink_weave.proofs.Frames as Frames
use Rattle.uplink_weave.proofs.laws.unique_payload.Goals as goal

pub returns : goal.returns
returns c = Frames.unique c.one_nearest.ensures
