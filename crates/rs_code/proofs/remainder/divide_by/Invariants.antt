use Rattle.std.proofs.Common.{◌≡◌, ℕ, ◌∷◌, length, drop}
use Rattle.rs_code.specs.CodeWord.{power_sum}
use Rattle.rs_code.proofs.remainder.divide_by.Given as goal

-- what is left has the power sums of the word
abbrev pub invariant-loop-place : goal.invariant-loop-place
invariant-loop-place l = record {
  long : length l.word ≡ length l.initial.word;
  sums : (j : ℕ) → power_sum (1 ∷ l.generator) j ≡ 0 → power_sum (drop l.place l.word) j ≡ power_sum l.initial.word j;
}
