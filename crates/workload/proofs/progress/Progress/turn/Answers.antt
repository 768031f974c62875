-- A turn comes before its hearing, and the picture after the last.
use Rattle.std.proofs.Common.{◌%◌, ◌<◌, ◌≤◌, [], ◌∷◌, arith}
use Rattle.workload.specs.declared.step.Step.TheVariants.{Turn as turn_step}
use Rattle.workload.specs.declared.progress.Phase.TheVariants.{Turn}
use Rattle.workload.specs.Progress.{still_to_come}
use Rattle.workload.proofs.progress.Progress.turn.Goals as goal
use Rattle.workload.proofs.Ranges.{fits-at}
use Rattle.workload.proofs.Transitions.{rest-within, turns-next, turns-end}

pub returns-then-second-eq60-clause-handed : goal.returns-then-second-eq60-clause-handed
unfolding still_to_come
returns-then-second-eq60-clause-handed c =
    let last : 60 ≤ c.args.second = omega arith in
    rest-within _ _ _ _ _ _ _ _ _ [] c.requires.more c.requires.phase
    (turns-end c.args.self.now.minute c.args.second c.args.self.now.draws.state c.args.self.now.listed.items last)

pub returns-clause-handed : goal.returns-clause-handed
unfolding still_to_come
returns-clause-handed c =
    let fits = fits-at c.args.self.now (Turn c.args.second) c.requires.sound c.requires.phase in
    let inside : c.args.second < 60 = omega (arith, fits.0) in
    rest-within _ _ _ _ _ _ _ _ _ (turn_step c.moment.result (c.args.second % 32) ∷ []) c.requires.more c.requires.phase
    (turns-next c.args.self.now.minute c.args.second c.moment.result c.args.self.now.draws.state c.args.self.now.listed.items inside c.moment.ensures)
