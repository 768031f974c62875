use Rattle.radar_core.proofs.MarkLemmas.{AreMarks}
use Rattle.std.proofs.Common.{take}
use Rattle.radar_core.proofs.blanks.marks_of.Given as goal

abbrev pub invariant-loop-number : goal.invariant-loop-number
invariant-loop-number l = AreMarks l.base (take l.number-index l.further) l.marks
