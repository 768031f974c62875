use Rattle.std.proofs.Common.{arith}
use Rattle.radar_core.proofs.MarkLemmas.{above_base, marks-none, marks-more}
use Rattle.radar_core.proofs.blanks.marks_of.Goals as goal

pub loop-number-init : goal.loop-number-init
loop-number-init c = marks-none c.args.base c.no_marks-marks.result c.no_marks-marks.ensures

pub overflow_sub-marks : goal.overflow_sub-marks
overflow_sub-marks c =
    let above = above_base c.args.base c.args.further.now c.loop-number.number-index c.requires.group (omega arith) in omega (arith, above)

pub loop-number-preserved : goal.loop-number-preserved
loop-number-preserved c =
    marks-more c.args.base c.args.further.now c.loop-number.marks c.loop-number.number-index c.loop-number.invariant c.requires.group
    (omega arith)
