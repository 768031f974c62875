-- What is written and what the draws that are left give is the whole list.
use Rattle.std.proofs.Common.{◌≡◌, ◌-◌, ◌++◌, length, take}
use Rattle.workload.specs.Draws.{draws}
use Rattle.workload.proofs.draws.Draws.intensities.Given as goal

abbrev pub invariant-loop-intensity : goal.invariant-loop-intensity
invariant-loop-intensity l =
    (take l.intensity-index l.intensities ++ (draws 8 (length l.fn.intensities - l.intensity-index) l.self.state).0
    ≡ (draws 8 (length l.fn.intensities) l.fn.self.state).0)
    × ((draws 8 (length l.fn.intensities - l.intensity-index) l.self.state).1 ≡ (draws 8 (length l.fn.intensities) l.fn.self.state).1)
