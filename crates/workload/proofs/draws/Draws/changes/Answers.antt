-- One block after another.
use Rattle.std.proofs.Common.{◌≡◌, arith}
use Rattle.workload.proofs.draws.Draws.changes.Goals as goal
use Rattle.workload.proofs.ChangeLemmas.{blocks-more, blocks-end, states-end}

pub loop-block-preserved : goal.loop-block-preserved
loop-block-preserved c =
    blocks-more c.loop-block.changes c.push_changes.new.changes _ c.loop-block.block c.loop-block.self.state
    c.next_number.result c.next_number-in-loop-block.result c.next_number-in-loop-block-2.result
    c.next_number.new.self.state c.next_number-in-loop-block.new.self.state c.next_number-in-loop-block-2.new.self.state _
    c.next_number.ensures.number c.next_number.ensures.state
    c.next_number-in-loop-block.ensures.number c.next_number-in-loop-block.ensures.state
    c.next_number-in-loop-block-2.ensures.number c.next_number-in-loop-block-2.ensures.state
    c.in_ok-push_changes.ensures c.loop-block-test.true c.loop-block.invariant.0 c.loop-block.invariant.1

pub returns-clause-made : goal.returns-clause-made
returns-clause-made c =
    let done : 6 ≡ c.loop-block.block = omega arith in
    blocks-end c.loop-block.changes _ c.loop-block.block c.loop-block.self.state done c.loop-block.invariant.0

pub returns-clause-state : goal.returns-clause-state
returns-clause-state c =
    let done : 6 ≡ c.loop-block.block = omega arith in
    states-end c.loop-block.block c.loop-block.self.state _ done c.loop-block.invariant.1
