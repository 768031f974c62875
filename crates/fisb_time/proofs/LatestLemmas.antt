-- The two dates that are tried for the latest moment with a month and a day: that in the last year that
-- has the day, up to the year of the latest second, and the one a step before.
use Rattle.std.proofs.Common.{◌≡◌, ℕ, ◌+◌, ◌-◌, ◌*◌, ◌/◌, ◌%◌, ◌<◌, ◌≤◌, ◌⊎◌, ◌↔◌, inl, inr, arith, pos}
use Rattle.std.specs.Int.{IsInRange}
use Rattle.std.proofs.lemmas.Bool.{cases_order}
use Rattle.jiff_core.specs.Calendar.{IsCivilDate, days_from_civil}
use Rattle.fisb_time.specs.Moment.{IsMoment}
use Rattle.fisb_time.specs.CivilDate.{date_of}
use Rattle.fisb_time.proofs.DateLemmas.{date_of-is, year_in, year_up_to, at_or_before}
use Rattle.fisb_time.proofs.YearLemmas.{last_step}

-- a moment with this month, day and second of the day, up to the latest second
pub record IsWanted (latest month day second m : ℕ) : Type 0 where
  pub in_range : IsMoment m
  pub not_ahead : m ≤ latest
  pub on_month : (date_of m).month ≡ month
  pub on_day : (date_of m).day ≡ day
  pub at : m % 86400 ≡ second

-- both years have the day, and no year between them, nor one after them up to the latest second
pub record IsTried (latest month day step last : ℕ) : Type 0 where
  pub low : 1996 ≤ last - step
  pub room : step ≤ last
  pub high : last ≤ 2099
  pub civil : IsCivilDate (pos last) month day
  pub civil_before : IsCivilDate (pos (last - step)) month day
  pub earlier : last - step < (date_of latest).year
  pub nearest :
      (second m : ℕ) → IsWanted latest month day second m → (date_of m).year ≤ last
  pub next :
      (second m : ℕ) → IsWanted latest month day second m → (date_of m).year < last →
      (date_of m).year ≤ last - step

pub tried :
    (latest month day step year : ℕ) → IsMoment latest → (step ≡ 1) ⊎ (step ≡ 4) →
    ((y : ℕ) → IsInRange 1996 2099 y → IsCivilDate (pos y) month day ↔ (y % step ≡ 0)) →
    year ≡ (date_of latest).year → IsTried latest month day step (year / step * step)
tried latest month day step year range steps every own =
    let years = year_in latest range in
    let last = year / step * step in
    let it = last_step year step (omega arith) steps in
    let multiple : (second m : ℕ) → IsWanted latest month day second m → (date_of m).year % step ≡ 0 =
    λ second m h.
    let civil = (date_of-is m h.in_range).civil in
    let there : IsCivilDate (pos (date_of m).year) month day = rw (h.on_month, h.on_day) at civil in
    let its = year_in m h.in_range in
    (every (date_of m).year (omega arith, omega arith)).0 there in
    record {
      low = omega (arith, it.first, it.short);
      room = omega (arith, it.first, it.short);
      high = omega (arith, it.not_after);
      civil = (every last (omega (arith, it.first), omega (arith, it.not_after))).1 it.whole;
      civil_before = (every (last - step) (omega (arith, it.first, it.short), omega (arith, it.not_after))).1 it.whole_before;
      earlier = omega (arith, it.first, it.short, it.some, it.not_after);
      nearest = λ second m h.
          it.nearest (date_of m).year (multiple second m h)
          (omega (arith, year_up_to m latest h.in_range range h.not_ahead));
      next = λ second m h lt. it.next (date_of m).year (multiple second m h) lt;
    }

-- no wanted moment comes after the first date that is tried
pub first_try :
    (latest month day step last number second m : ℕ) → IsTried latest month day step last →
    days_from_civil (pos last) month day ≡ pos number → IsWanted latest month day second m →
    m ≤ number * 86400 + second
first_try latest month day step last number second m t is h =
    (at_or_before m last month day number second h.in_range h.on_month h.on_day h.at t.civil is (t.nearest second m h)).0

-- and where that one is too late, none comes after the second
pub second_try :
    (latest month day step last number before second m : ℕ) → IsTried latest month day step last →
    days_from_civil (pos last) month day ≡ pos number →
    days_from_civil (pos (last - step)) month day ≡ pos before →
    latest < number * 86400 + second → IsWanted latest month day second m →
    m ≤ before * 86400 + second
second_try latest month day step last number before second m t is is_before late h =
    let near = t.nearest second m h in
    let at_last = at_or_before m last month day number second h.in_range h.on_month h.on_day h.at t.civil is near in
    elim (cases_order (date_of m).year last) [
      | inl e ↦ let same = at_last.1 e in absurd (omega (arith, h.not_ahead))
      | inr (inl lt) ↦
          (at_or_before m (last - step) month day before second h.in_range h.on_month h.on_day h.at t.civil_before is_before (t.next second m h lt)).0
      | inr (inr gt) ↦ absurd (omega arith)
    ]
