use Rattle.std.proofs.Common.{◌≡◌, [], length, false}
use Rattle.dlac_text.specs.Reading.{reports_with}
use Rattle.dlac_text.specs.SixBits.{six_bit_groups}
use Rattle.dlac_text.proofs.ReadingSteps.{reading}
use Rattle.dlac_text.proofs.decoding.reports.Given as goal

-- the reports of what was read and of the rest are those of all
abbrev pub invariant-loop-rest : goal.invariant-loop-rest
invariant-loop-rest l = reports_with (reading [] [] false) (six_bit_groups l.initial.rest) ≡ reports_with l.reader (six_bit_groups l.rest)

abbrev pub decreases-loop-rest : goal.decreases-loop-rest
decreases-loop-rest l = length l.rest
