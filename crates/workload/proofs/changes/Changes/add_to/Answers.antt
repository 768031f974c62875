-- One change after another.
use Rattle.std.proofs.Common.{ℕ, List, sym, ap, ◌∙◌, refl, arith}
use Rattle.std.proofs.Math.ListN.{length-set}
use Rattle.workload.specs.Hearings.{frame_with_changes}
use Rattle.workload.proofs.changes.Changes.add_to.Goals as goal
use Rattle.workload.proofs.ChangeLemmas.{frame_with_changes-next, frame_with_changes-end}

pub loop-place-init : goal.loop-place-init
loop-place-init c = (c.requires.frame, refl)

pub loop-place-preserved : goal.loop-place-preserved
loop-place-preserved c = (
  omega (arith, length-set {A = ℕ}, c.loop-place.invariant.0),
  frame_with_changes-next c.as_slice-place-items.result.now c.loop-place.frame c.loop-place.place-index c.from-place.result c.loop-place-test.true c.from-place.ensures
      ∙ c.loop-place.invariant.1,
)

pub returns : goal.returns
returns c =
    sym (frame_with_changes-end c.as_slice-place-items.result.now c.loop-place.frame c.loop-place.place-index c.loop-place-test.false)
    ∙ c.loop-place.invariant.1
    ∙ ap (λ (items : List (ℕ × ℕ)). frame_with_changes items c.args.frame.now) (c.as_slice-place-items.ensures.value ∙ c.self.view_is)
