-- The changes that are left make of the frame what all changes make of it at the start.
use Rattle.std.proofs.Common.{◌≡◌, length, drop}
use Rattle.workload.specs.Hearings.{frame_with_changes}
use Rattle.workload.proofs.changes.Changes.add_to.Given as goal

abbrev pub invariant-loop-place : goal.invariant-loop-place
invariant-loop-place l =
    (length l.frame ≡ 552) × (frame_with_changes (drop l.place-index l.place-items) l.frame ≡ frame_with_changes l.place-items l.fn.frame)
