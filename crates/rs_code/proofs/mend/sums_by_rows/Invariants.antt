use Rattle.std.proofs.Common.{◌≡◌, ◌<◌, ◌+◌, ◌-◌, ℕ, length, drop, get_or}
use Rattle.rs_code.specs.CodeWord.{power_sum}
use Rattle.rs_code.proofs.mend.sums_by_rows.Given as goal

-- the sums of the last bytes
abbrev pub invariant-loop-power : goal.invariant-loop-power
invariant-loop-power l = (k : ℕ) → k < 32 → get_or l.sums k 0 ≡ power_sum (drop (length l.word - l.power) l.word) (120 + k)
