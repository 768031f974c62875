use Rattle.uplink_frame.proofs.Pushed.{filled-zeros}
use Rattle.uplink_frame.proofs.Spelled.{frames_in-zeros}
use Rattle.uplink_frame.specs.UplinkFrame.{frames_in}
use Rattle.std.proofs.Common.{ap, ◌∙◌}
use Rattle.uplink_frame.proofs.app_data.AppData.new.Goals as goal

pub invariant_of-result : goal.invariant_of-result
invariant_of-result c = filled-zeros c.zeros.result c.zeros.ensures

pub returns : goal.returns
returns c = ap frames_in c.zeros.ensures ∙ frames_in-zeros 424
