use Rattle.std.proofs.Common.{arith, sym, ap, ◌∙◌}
use Rattle.uplink_frame.specs.UplinkFrame.{frames_in}
use Rattle.uplink_frame.proofs.FrameList.{information_frames-frames_in}
use Rattle.uplink_frame.proofs.walk.frames.Goals as goal

pub returns : goal.returns
returns c = ap frames_in c.split_at.ensures.back ∙ sym (information_frames-frames_in c.args.payload.now (omega arith))
