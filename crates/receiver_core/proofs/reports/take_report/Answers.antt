use Rattle.std.proofs.Common.{arith}
use Rattle.receiver_core.proofs.reports.take_report.Goals as goal

pub overflow_add-until : goal.overflow_add-until
overflow_add-until c =
    let short = c.in-Some.ensures.bounded in
    let range = c.seconds.ensures.in_range in
    omega (arith, short, range)
