-- One intensity after another.
use Rattle.std.proofs.Common.{◌≡◌, ◌<◌, length, arith}
use Rattle.workload.proofs.draws.Draws.intensities.Goals as goal
use Rattle.workload.proofs.DrawLemmas.{numbers-more, numbers-end, draws-end}

pub loop-intensity-preserved : goal.loop-intensity-preserved
loop-intensity-preserved c =
    let inside : c.loop-intensity.intensity-index < length c.args.intensities.now = omega arith in
    let long : length c.args.intensities.now ≡ length c.loop-intensity.intensities = omega arith in
    numbers-more c.loop-intensity.intensities _ 8 (length c.args.intensities.now) c.loop-intensity.intensity-index
    c.loop-intensity.self.state c.next_number.result c.next_number.new.self.state _
    c.next_number.ensures.number c.next_number.ensures.state inside long c.loop-intensity.invariant.0 c.loop-intensity.invariant.1

pub returns-clause-numbers : goal.returns-clause-numbers
returns-clause-numbers c =
    let done : length c.args.intensities.now ≡ c.loop-intensity.intensity-index = omega arith in
    let long : length c.args.intensities.now ≡ length c.loop-intensity.intensities = omega arith in
    numbers-end c.loop-intensity.intensities _ 8 (length c.args.intensities.now) c.loop-intensity.intensity-index c.loop-intensity.self.state done long c.loop-intensity.invariant.0

pub returns-clause-state : goal.returns-clause-state
returns-clause-state c =
    let done : length c.args.intensities.now ≡ c.loop-intensity.intensity-index = omega arith in
    draws-end 8 (length c.args.intensities.now) c.loop-intensity.intensity-index c.loop-intensity.self.state _ done c.loop-intensity.invariant.1
