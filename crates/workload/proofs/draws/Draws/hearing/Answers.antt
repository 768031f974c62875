-- A hearing is drawn.
use Rattle.workload.proofs.draws.Draws.hearing.Goals as goal
use Rattle.workload.proofs.PartLemmas.{hearing-none, hearing-is}

pub returns-then-next_number-eq0 : goal.returns-then-next_number-eq0
returns-then-next_number-eq0 c =
    hearing-none c.args.moment c.args.self.now.state c.next_number.result c.next_number.new.self.state
    c.next_number.ensures.number c.if-next_number-eq0.true c.next_number.ensures.state

pub returns : goal.returns
returns c =
    hearing-is c.args.moment c.args.self.now.state c.next_number.result c.next_number.new.self.state c.changes.new.self.state c.in_ok-changes.changes
    c.next_number.ensures.number c.if-next_number-eq0.false c.next_number.ensures.state c.in_ok-changes.ensures.made c.in_ok-changes.ensures.state
