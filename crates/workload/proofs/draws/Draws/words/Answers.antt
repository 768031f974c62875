-- One word after another.
use Rattle.std.proofs.Common.{◌≡◌, arith}
use Rattle.workload.proofs.draws.Draws.words.Goals as goal
use Rattle.workload.proofs.DrawLemmas.{words-more, words-end, draws-end}

pub loop-preserved : goal.loop-preserved
loop-preserved c =
    words-more c.loop.text c.push.new.self c.push_five_digits.new.self _ 100000 c.args.count c.loop.counter
    c.loop.self.state c.next_number.result c.next_number.new.self.state _
    c.in_ok-push.ensures c.next_number.ensures.number c.next_number.ensures.state c.in_ok-push_five_digits.ensures
    c.loop-test.true c.loop.invariant.0 c.loop.invariant.1

pub returns-clause-text : goal.returns-clause-text
returns-clause-text c =
    let done : c.args.count ≡ c.loop.counter = omega arith in
    words-end c.loop.text _ 100000 c.args.count c.loop.counter c.loop.self.state done c.loop.invariant.0

pub returns-clause-state : goal.returns-clause-state
returns-clause-state c =
    let done : c.args.count ≡ c.loop.counter = omega arith in
    draws-end 100000 c.args.count c.loop.counter c.loop.self.state _ done c.loop.invariant.1
