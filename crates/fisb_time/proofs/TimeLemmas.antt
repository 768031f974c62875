-- The fields of every moment are those of a time of the form.
use Rattle.std.proofs.Common.{ℕ, ◌≤◌, refl, arith, pos}
use Rattle.std.proofs.lemmas.Bool.Decides.{nat_tests}
use Rattle.jiff_core.specs.Calendar.{days_in_month}
use Rattle.fisb_time.specs.declared.form.TimeForm.{TimeForm}
use Rattle.fisb_time.specs.declared.form.TimeForm.TheVariants.{Minute, Second, DayMinute, DaySecond}
use Rattle.fisb_time.specs.declared.form.TimeFields.{TimeFields}
use Rattle.fisb_time.specs.Moment.{IsMoment}
use Rattle.fisb_time.specs.CivilDate.{IsMonthAndDay, date_of}
use Rattle.fisb_time.specs.TimeFields.{shown_fields, IsTimeIn}
use Rattle.fisb_time.specs.Naming.{IsCandidate}
use Rattle.fisb_time.proofs.DateLemmas.{date_of-is}

-- no month is longer than that of a leap year
longest : (y m : ℕ) → days_in_month (pos y) m ≤ days_in_month (pos 2000) m
longest y m = grind (arith, nat_tests)

month_and_day : (m : ℕ) → IsMoment m → IsMonthAndDay (date_of m).month (date_of m).day
month_and_day m range =
    let civil = (date_of-is m range).civil in
    record {
      month_in = civil.1;
      day_in = (civil.2.0, omega (arith, longest (date_of m).year (date_of m).month));
    }

shown_time : (form : TimeForm) (m : ℕ) → IsMoment m → IsTimeIn form (shown_fields form m)
shown_time Minute m range =
    record { hours = omega arith; minutes = omega arith; seconds = refl; date = (refl, refl) }
shown_time Second m range =
    record { hours = omega arith; minutes = omega arith; seconds = omega arith; date = (refl, refl) }
shown_time DayMinute m range =
    record { hours = omega arith; minutes = omega arith; seconds = refl; date = month_and_day m range }
shown_time DaySecond m range =
    record { hours = omega arith; minutes = omega arith; seconds = omega arith; date = month_and_day m range }

-- so fields that are not of that shape have no candidate
pub candidate_time :
    (form : TimeForm) (fields : TimeFields) (received m : ℕ) → IsCandidate form fields received m →
    IsTimeIn form fields
candidate_time form fields received m h = rw h.same at (shown_time form m h.in_range)
