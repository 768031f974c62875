use Rattle.std.proofs.Common.{◌≡◌, ◌<◌, ◌≤◌, ◌+◌, ℕ, ◌∷◌, get_or, take, length}
use Rattle.rs_code.specs.CodeWord.{power_sum}
use Rattle.rs_code.proofs.generator.generator.Given as goal

-- the polynomial of the roots so far, and zeros behind it
abbrev pub invariant-loop-degree : goal.invariant-loop-degree
invariant-loop-degree g l = record {
  long : length l.coefficients ≡ g.row.ROOTS;
  roots : (j : ℕ) → l.first ≤ j → j < l.first + l.degree → power_sum (1 ∷ take l.degree l.coefficients) j ≡ 0;
  zeros : (k : ℕ) → l.degree ≤ k → get_or l.coefficients k 0 ≡ 0;
}
