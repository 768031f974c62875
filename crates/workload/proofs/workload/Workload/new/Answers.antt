-- At the start all steps are still to come.
use Rattle.std.proofs.Common.{◌≡◌, ℕ, List, ap, sym, subst}
use Rattle.workload.specs.declared.progress.Phase.TheVariants.{Metar}
use Rattle.workload.specs.Workload.{workload, each_from, minute}
use Rattle.workload.specs.Progress.{still_to_come, rest}
use Rattle.workload.proofs.workload.Workload.new.Goals as goal
use Rattle.workload.proofs.Transitions.{rest-start}

pub returns : goal.returns
unfolding still_to_come workload
returns c =
    let P : List ℕ → Type 0 = λ listed. (rest c.args.count 0 listed (Metar 0) c.args.seed).0 ≡ (each_from 0 c.args.count minute c.args.seed).0 in
    subst P (sym c.new.ensures.items) (ap (λ part. (part c.args.seed).0) (rest-start c.args.count 0))
