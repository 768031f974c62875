use Rattle.std.proofs.Common.{◌≡◌, ◌++◌, length, map}
use Rattle.uplink_frame.specs.UplinkFrame.{information_frames}
use Rattle.wire_trials.proofs.frames.outlines.Given as goal

-- what was found, and the outlines of the frames that are left
abbrev pub invariant-loop-frame : goal.invariant-loop-frame
invariant-loop-frame l =
    l.found.items ++ map (λ f. (f.kind, length f.body)) l.frame-iterator
    ≡ map (λ f. (f.kind, length f.body)) (information_frames l.payload)
