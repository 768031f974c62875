use Rattle.radar_core.proofs.MarkLemmas.{IsWritten}
use Rattle.radar_core.proofs.blanks.put_bitmap.Given as goal

abbrev pub invariant-loop-place : goal.invariant-loop-place
invariant-loop-place l = IsWritten l.base l.further l.fn.room l.room l.place l.length
