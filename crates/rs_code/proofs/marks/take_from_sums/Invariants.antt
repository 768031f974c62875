use Rattle.std.proofs.Common.{◌≡◌, ◌<◌, ◌+◌, ℕ, List, length, take, get_or}
use Rattle.rs_code.specs.CodeWord.{power_sum}
use Rattle.rs_code.specs.Mending.{without}
use Rattle.rs_code.proofs.marks.take_from_sums.Given as goal

-- the sums without the marks so far
abbrev pub invariant-loop-mark : goal.invariant-loop-mark
invariant-loop-mark g l =
    (word : List ℕ) (first : ℕ) → length word ≡ g.row.N
    → ((k : ℕ) → k < length l.initial.sums → get_or l.initial.sums k 0 ≡ power_sum word (first + k))
    → (k : ℕ) → k + l.mark-index < length l.initial.sums
    → get_or l.sums k 0 ≡ power_sum (without (take l.mark-index l.marks) word) (first + k)
