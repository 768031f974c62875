use Rattle.std.proofs.Common.{◌≡◌, ◌<◌, ◌≤◌, ℕ, length, drop}
use Rattle.rs_code.specs.CodeWord.{power_sum}
use Rattle.rs_code.proofs.remainder.divide_by_rows.Given as goal

-- what is left has the power sums of the word
abbrev pub invariant-loop-place : goal.invariant-loop-place
invariant-loop-place l = record {
  long : length l.word ≡ length l.initial.word;
  sums : (j : ℕ) → 120 ≤ j → j < 140 → power_sum (drop l.place l.word) j ≡ power_sum l.initial.word j;
}
