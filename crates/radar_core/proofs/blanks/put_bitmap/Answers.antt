use Rattle.std.proofs.Common.{arith}
use Rattle.radar_core.proofs.MarkLemmas.{first_by, more_by, marks_by, all_by}
use Rattle.radar_core.proofs.blanks.put_bitmap.Goals as goal

pub loop-place-init : goal.loop-place-init
loop-place-init c =
    first_by c.args.base c.args.further.now c.args.room.now c.marks_of-marks.result c.four_bits.result c.length_for-length.result
    (marks_by c.args.base c.args.further.now c.marks_of-marks.result c.marks_of-marks.ensures.size c.marks_of-marks.ensures.marks) c.told-room
    c.length_for-length.ensures.some c.four_bits.ensures.value c.length_for-length.ensures.value

pub loop-place-preserved : goal.loop-place-preserved
loop-place-preserved c =
    more_by c.args.base c.args.further.now c.args.room.now c.loop-place.room c.marks_of-marks.result c.four_bits-in-loop-place.result
    c.four_bits-in-loop-place-2.result c.loop-place.place c.length_for-length.result
    (marks_by c.args.base c.args.further.now c.marks_of-marks.result c.marks_of-marks.ensures.size c.marks_of-marks.ensures.marks) c.loop-place.invariant
    c.loop-place.auto.place c.loop-place-test.true c.length_for-length.ensures.most c.four_bits-in-loop-place.ensures.value
    c.four_bits-in-loop-place-2.ensures.value

pub returns-clause-bitmap : goal.returns-clause-bitmap
returns-clause-bitmap c =
    all_by c.args.base c.args.further.now c.args.room.now c.loop-place.room c.loop-place.place c.length_for-length.result c.loop-place.invariant
    (omega (arith, c.length_for-length.ensures.some)) c.length_for-length.ensures.value
