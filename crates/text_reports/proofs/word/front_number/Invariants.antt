use Rattle.std.proofs.Common.{◌≡◌}
use Rattle.text_reports.specs.Front.{front_number}
use Rattle.text_reports.proofs.word.front_number.Given as goal

abbrev pub invariant-loop-place : goal.invariant-loop-place
invariant-loop-place l = l.number ≡ front_number l.place l.word
