-- A hearing comes before the next turn.
use Rattle.std.specs.Prelude.{option_to_list}
use Rattle.workload.specs.Progress.{still_to_come}
use Rattle.workload.proofs.progress.Progress.hearing.Goals as goal
use Rattle.workload.proofs.Transitions.{rest-within, hearings-next}

pub returns-clause-handed : goal.returns-clause-handed
unfolding still_to_come
returns-clause-handed c =
    rest-within _ _ _ _ _ _ _ _ _ (option_to_list c.in_ok-step.step) c.requires.more c.requires.phase
    (hearings-next c.args.self.now.minute c.args.second c.moment.result c.args.self.now.draws.state c.hearing.new.self.state c.args.self.now.listed.items
    (option_to_list c.in_ok-step.step) c.moment.ensures c.in_ok-step.ensures)
