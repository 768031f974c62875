use Rattle.std.proofs.Common.{ℕ, ◌≤◌, refl, arith, pos}
use Rattle.std.proofs.lemmas.Bool.Decides.{nat_tests}
use Rattle.jiff_core.specs.Calendar.{IsCivilDate}
use Rattle.fisb_time.specs.declared.form.TimeForm.{TimeForm}
use Rattle.fisb_time.specs.declared.form.TimeForm.TheVariants.{Minute, Second, DayMinute, DaySecond}
use Rattle.fisb_time.specs.Moment.{IsMoment}
use Rattle.fisb_time.specs.CivilDate.{CivilDate, IsDateOf, date_of}
use Rattle.fisb_time.specs.TimeFields.{shown_fields}
use Rattle.apdu_core.specs.Spelling.{FitsTime}
use Rattle.apdu_core.proofs.laws.shown_fits.Goals as goal

-- a month and a day of the calendar fit
month_fits : (date : CivilDate) → IsCivilDate (pos date.year) date.month date.day → date.month ≤ 12
month_fits date h = omega arith

day_fits : (date : CivilDate) → IsCivilDate (pos date.year) date.month date.day → date.day ≤ 31
day_fits date h = grind (arith, nat_tests)

fits : ((moment : ℕ) → IsMoment moment → IsDateOf moment (date_of moment)) → (form : TimeForm) (moment : ℕ) → IsMoment moment → FitsTime form (shown_fields form moment)
fits dates Minute m range = record {
  month = omega arith;
  day = omega arith;
  hours = omega arith;
  minutes = omega arith;
  seconds = omega arith;
  no_month = λ e. refl;
  no_day = λ e. refl;
  no_seconds = λ e. refl;
}
fits dates Second m range = record {
  month = omega arith;
  day = omega arith;
  hours = omega arith;
  minutes = omega arith;
  seconds = omega arith;
  no_month = λ e. refl;
  no_day = λ e. refl;
  no_seconds = λ e. cc;
}
fits dates DayMinute m range =
    let month = month_fits (date_of m) (dates m range).civil in
    let day = day_fits (date_of m) (dates m range).civil in
    record {
      month = omega arith;
      day = omega arith;
      hours = omega arith;
      minutes = omega arith;
      seconds = omega arith;
      no_month = λ e. cc;
      no_day = λ e. cc;
      no_seconds = λ e. refl;
    }
fits dates DaySecond m range =
    let month = month_fits (date_of m) (dates m range).civil in
    let day = day_fits (date_of m) (dates m range).civil in
    record {
      month = omega arith;
      day = omega arith;
      hours = omega arith;
      minutes = omega arith;
      seconds = omega arith;
      no_month = λ e. cc;
      no_day = λ e. cc;
      no_seconds = λ e. cc;
    }

pub returns : goal.returns
returns c = fits (λ moment range. (c.date_of_day.ensures moment (date_of moment) range).0 refl)
