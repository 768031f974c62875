-- The bytes behind the header are those of the frames, and zeros.
use Rattle.std.proofs.Common.{arith}
use Rattle.uplink_frame.proofs.Pushed.{IsFinished, finished, payload_of-parts}
use Rattle.uplink_frame.proofs.app_data.AppData.finish.Goals as goal
use Rattle.uplink_frame.proofs.app_data.AppData.finish.Goals.{After-put}

written : (c : After-put) → IsFinished c.args.payload.now c.put.new.bytes c.args.self.now
written c =
    rw (← c.self.view_is)
    (finished c.self.inside.bytes c.args.payload.now c.put.new.bytes c.self.inside.used c.self.invariant
    (omega arith) (omega arith) c.put.ensures)

pub returns-clause-bytes : goal.returns-clause-bytes
returns-clause-bytes c = (written (goal.at.returns-clause-bytes c).After-put).bytes

pub returns-clause-reads_back : goal.returns-clause-reads_back
returns-clause-reads_back c = (written (goal.at.returns-clause-reads_back c).After-put).reads_back

pub returns-clause-frames : goal.returns-clause-frames
returns-clause-frames c = (written (goal.at.returns-clause-frames c).After-put).fit

pub returns-clause-payload : goal.returns-clause-payload
returns-clause-payload c =
    λ h front. payload_of-parts h _ _ _ (written (goal.at.returns-clause-payload c).After-put).bytes front
