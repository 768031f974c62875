use Rattle.std.proofs.Common.{◌≡◌, ◌<◌, ◌+◌, ℕ, get_or, length}
use Rattle.rs_code.specs.CodeWord.{power_sum}
use Rattle.rs_code.proofs.mend.sums_one_by_one.Given as goal

abbrev pub invariant-loop-k : goal.invariant-loop-k
invariant-loop-k g l = record {
  long : length l.sums ≡ g.row.ROOTS;
  written : (i : ℕ) → i < l.k → get_or l.sums i 0 ≡ power_sum l.word (l.first + i);
}
