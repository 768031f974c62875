-- The date on which a moment lies, in the Gregorian calendar.
use Rattle.std.specs.Prelude.{◌≡◌, ℕ, zero, suc, ◌+◌, ◌-◌, ◌/◌, nat_lt, if◌then◌else◌, pos}
use Rattle.std.specs.Int.{IsInRange}
use Rattle.fisb_time.specs.Moment.{day_seconds}
use Rattle.jiff_core.specs.Calendar.{IsCivilDate, days_from_civil, days_in_month, days_in_year}

-- a year, a month from 1 to 12 and a day from 1
pub record CivilDate : Type 0 where
  pub year : ℕ
  pub month : ℕ
  pub day : ℕ

-- the moment lies on this date: the calendar has it, and its day number, counted from 1970-01-01,
-- is the full days of the moment
pub record IsDateOf (moment : ℕ) (date : CivilDate) : Type 0 where
  pub civil : IsCivilDate (pos date.year) date.month date.day
  pub number : days_from_civil (pos date.year) date.month date.day ≡ pos (moment / day_seconds)

-- the month has this day, if only in a leap year, as 2000
pub record IsMonthAndDay (month day : ℕ) : Type 0 where
  pub month_in : IsInRange 1 12 month
  pub day_in : IsInRange 1 (days_in_month (pos 2000) month) day

-- For use inside other definitions, the same as a function: it walks from 2000-01-01 over whole
-- years and then over whole months.

-- the date that is so many days after the first of a month of this year, at most so many months on
unfoldable pub walk_months : ℕ → ℕ → ℕ → ℕ → CivilDate
walk_months zero year month days = record { year = year; month = month; day = days + 1 }
walk_months (suc months) year month days =
    if nat_lt days (days_in_month (pos year) month)
    then record { year = year; month = month; day = days + 1 }
    else walk_months months year (month + 1) (days - days_in_month (pos year) month)

-- the date that is so many days after 1 January of this year, at most so many years on
unfoldable pub walk_years : ℕ → ℕ → ℕ → CivilDate
walk_years zero year days = walk_months 12 year 1 days
walk_years (suc years) year days =
    if nat_lt days (days_in_year (pos year)) then walk_months 12 year 1 days
    else walk_years years (year + 1) (days - days_in_year (pos year))

-- the date of a moment of the century: day 10957 is 2000-01-01
unfoldable pub date_of : ℕ → CivilDate
date_of moment = walk_years 99 2000 (moment / day_seconds - 10957)
