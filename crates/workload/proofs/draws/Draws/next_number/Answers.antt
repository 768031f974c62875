-- A product and a sum that wrap are the remainder of product and sum.
use Rattle.workload.proofs.draws.Draws.next_number.Goals as goal
use Rattle.workload.proofs.DrawLemmas.{state_after-wrapping, number_from-wrapping}

pub returns-clause-number : goal.returns-clause-number
returns-clause-number c = number_from-wrapping c.args.self.now.state

pub returns-clause-state : goal.returns-clause-state
returns-clause-state c = state_after-wrapping c.args.self.now.state
