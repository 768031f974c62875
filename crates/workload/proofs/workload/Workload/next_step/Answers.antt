-- What is handed out is in its ranges, and there is no step once no minute is left.
use Rattle.std.proofs.Common.{◌∙◌}
use Rattle.workload.proofs.workload.Workload.next_step.Goals as goal
use Rattle.workload.proofs.Fits.{fits-handed}
use Rattle.workload.proofs.Transitions.{still_to_come-none}

pub returns-in-Some-clause-fits : goal.returns-in-Some-clause-fits
returns-in-Some-clause-fits c =
    fits-handed c.loop-self.self-inside.progress c.advance.new.self c.in_ok-step.field-0 c.in-Some.step c.in-Some.is c.in_ok-step.ensures.handed

pub returns-clause-end : goal.returns-clause-end
returns-clause-end c = λ _. c.loop-self.invariant.1 ∙ still_to_come-none c.loop-self.self-inside.progress c.loop-self-test.false
