-- Counts that a program keeps in 64 bits, and the count of the faults of a source or a sink.
use Rattle.std.specs.Prelude.{◌≡◌, ℕ, ◌+◌, ◌-◌, ◌^◌, ◌≤◌, min, Result, OnErr}
use Rattle.std.proofs.Common.{arith}

-- a count in 64 bits: it stands still at 2^64 − 1
abbrev pub u64_count : ℕ → ℕ
u64_count n = min n (2 ^ 64 - 1)

-- a count in 64 bits fits them
pub u64_count-bound : (n : ℕ) → u64_count n ≤ 2 ^ 64 - 1
u64_count-bound n = omega arith

-- the count after one more
abbrev pub next_count : ℕ → ℕ
next_count n = u64_count (n + 1)

-- the count rose: it is greater by one than before, or stands at 2^64 − 1
abbrev pub Rose : ℕ → ℕ → Type 0
Rose before after = after ≡ next_count before

-- the count of faults never falls, and a call that answers an error counts one
pub record HasCause {T E : Type 0} (before after : ℕ) (result : Result T E) : Type 0 where
  pub later : before ≤ after
  pub rose : OnErr result (Rose before after)
