-- The last year up to another that is a whole number of steps of one year or of four.
use Rattle.std.proofs.Common.{◌≡◌, ℕ, ◌-◌, ◌*◌, ◌/◌, ◌%◌, ◌<◌, ◌≤◌, ◌⊎◌, inl, inr, arith}

pub record IsLastStep (year step last : ℕ) : Type 0 where
  pub not_after : last ≤ year
  pub first : 2000 ≤ last
  pub short : step ≤ 4
  pub some : 0 < step
  pub whole : last % step ≡ 0
  pub whole_before : (last - step) % step ≡ 0
  pub nearest : (other : ℕ) → other % step ≡ 0 → other ≤ year → other ≤ last
  pub next : (other : ℕ) → other % step ≡ 0 → other < last → other ≤ last - step

pub last_step :
    (year step : ℕ) → 2000 ≤ year → (step ≡ 1) ⊎ (step ≡ 4) →
    IsLastStep year step (year / step * step)
last_step year step low (inl e) =
    rw e (record {
      not_after = omega arith;
      first = omega arith;
      short = omega arith;
      some = omega arith;
      whole = omega arith;
      whole_before = omega arith;
      nearest = λ other multiple before. omega arith;
      next = λ other multiple before. omega arith;
    })
last_step year step low (inr e) =
    rw e (record {
      not_after = omega arith;
      first = omega arith;
      short = omega arith;
      some = omega arith;
      whole = omega arith;
      whole_before = omega arith;
      nearest = λ other multiple before. omega arith;
      next = λ other multiple before. omega arith;
    })
