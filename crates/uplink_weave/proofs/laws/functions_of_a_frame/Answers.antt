use Rattle.uplink_weave.proofs.Functions as Functions
use Rattle.uplink_weave.proofs.laws.functions_of_a_frame.Goals as goal

pub returns : goal.returns
returns c = Functions.gives_payload c.corrected_is_nearest.ensures
