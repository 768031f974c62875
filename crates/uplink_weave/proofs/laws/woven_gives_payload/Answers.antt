use Rattle.uplink_weave.proofs.Frames as Frames
use Rattle.uplink_weave.proofs.laws.woven_gives_payload.Goals as goal

pub returns : goal.returns
returns c = Frames.woven_gives_payload c.differences_laws.ensures
