-- One change after another.
use Rattle.workload.proofs.drawing.push_changes.Goals as goal
use Rattle.workload.proofs.ChangeLemmas.{block_changes-zero, block_changes-more}

pub loop-t-init : goal.loop-t-init
loop-t-init c = block_changes-zero c.args.changes.now c.args.block c.args.first c.args.byte

pub loop-t-preserved : goal.loop-t-preserved
loop-t-preserved c =
    let more = block_changes-more c.args.changes.now c.args.block c.loop-t.t c.args.first c.args.byte in
    cc (c.in_ok-push.ensures, c.loop-t.invariant)
