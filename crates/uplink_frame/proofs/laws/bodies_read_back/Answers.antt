use Rattle.uplink_frame.proofs.Bodies.{bodies_read_back, frames_have_size}
use Rattle.uplink_frame.proofs.laws.bodies_read_back.Goals as goal

pub returns-clause-back : goal.returns-clause-back
returns-clause-back c = bodies_read_back

pub returns-clause-size : goal.returns-clause-size
returns-clause-size c = frames_have_size
