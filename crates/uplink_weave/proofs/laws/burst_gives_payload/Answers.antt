use Rattle.uplink_weave.proofs.Functions as Functions
use Rattle.uplink_weave.proofs.laws.burst_gives_payload.Goals as goal

pub returns : goal.returns
returns c =
    Functions.burst_gives_payload c.woven_is_the_frame.ensures c.burst_is_spread.ensures c.near_frame_gives_payload.ensures
