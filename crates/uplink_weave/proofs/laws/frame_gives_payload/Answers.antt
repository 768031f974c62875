use Rattle.uplink_weave.proofs.Functions as Functions
use Rattle.uplink_weave.proofs.laws.frame_gives_payload.Goals as goal

pub returns : goal.returns
returns c = Functions.frame_gives_payload c.woven_gives_payload.ensures c.woven_is_the_frame.ensures c.functions_of_a_frame.ensures
