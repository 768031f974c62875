use Rattle.uplink_weave.proofs.Functions as Functions
use Rattle.uplink_weave.proofs.laws.woven_is_the_frame.Goals as goal

pub returns : goal.returns
returns c = Functions.is_the_frame c.one_encoded.ensures
