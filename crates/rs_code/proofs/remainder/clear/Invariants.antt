use Rattle.std.proofs.Common.{◌≡◌, ◌<◌, ◌≤◌, ℕ, length, get_or}
use Rattle.rs_code.proofs.remainder.clear.Given as goal

abbrev pub invariant-loop-i : goal.invariant-loop-i
invariant-loop-i l = record {
  long : length l.word ≡ length l.initial.word;
  front : (k : ℕ) → k < l.place → get_or l.word k 0 ≡ get_or l.initial.word k 0;
  zeros : (k : ℕ) → l.place ≤ k → k < l.i → get_or l.word k 0 ≡ 0;
}
