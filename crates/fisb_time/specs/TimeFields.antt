-- The fields of a moment in UTC, as each form shows them.
use Rattle.std.specs.Prelude.{◌≡◌, ℕ, ◌/◌, ◌%◌, ◌<◌, ◌==◌, Bool, ◌&&◌}
use Rattle.fisb_time.specs.declared.form.TimeForm.{TimeForm}
use Rattle.fisb_time.specs.declared.form.TimeForm.TheVariants.{Minute, Second, DayMinute, DaySecond}
use Rattle.fisb_time.specs.declared.form.TimeFields.{TimeFields}
use Rattle.fisb_time.specs.CivilDate.{date_of, IsMonthAndDay}

-- the full hours since midnight, 0 to 23
abbrev pub hour_of_day : ℕ → ℕ
hour_of_day m = m / 3600 % 24

-- the full minutes since the hour, 0 to 59
abbrev pub minute_of_hour : ℕ → ℕ
minute_of_hour m = m / 60 % 60

-- the seconds since the minute, 0 to 59
abbrev pub second_of_minute : ℕ → ℕ
second_of_minute m = m % 60

-- the fields of a moment in a form that shows it; a field that the form lacks is 0
abbrev pub shown_fields : TimeForm → ℕ → TimeFields
shown_fields Minute m = record {
  month = 0;
  day = 0;
  hours = hour_of_day m;
  minutes = minute_of_hour m;
  seconds = 0;
}
shown_fields Second m = record {
  month = 0;
  day = 0;
  hours = hour_of_day m;
  minutes = minute_of_hour m;
  seconds = second_of_minute m;
}
shown_fields DayMinute m = record {
  month = (date_of m).month;
  day = (date_of m).day;
  hours = hour_of_day m;
  minutes = minute_of_hour m;
  seconds = 0;
}
shown_fields DaySecond m = record {
  month = (date_of m).month;
  day = (date_of m).day;
  hours = hour_of_day m;
  minutes = minute_of_hour m;
  seconds = second_of_minute m;
}

-- whether two times have the same fields
abbrev pub same_fields : TimeFields → TimeFields → Bool
same_fields f g = f.month == g.month
    && f.day == g.day
    && f.hours == g.hours
    && f.minutes == g.minutes
    && f.seconds == g.seconds

-- the second of the minute in a form: 0 where the form has no seconds
abbrev pub IsSecondIn : TimeForm → ℕ → Type 0
IsSecondIn Minute second = second ≡ 0
IsSecondIn Second second = second < 60
IsSecondIn DayMinute second = second ≡ 0
IsSecondIn DaySecond second = second < 60

-- the month and the day in a form: 0 where the form has no date
abbrev pub IsDateIn : TimeForm → ℕ → ℕ → Type 0
IsDateIn Minute month day = (month ≡ 0) × (day ≡ 0)
IsDateIn Second month day = (month ≡ 0) × (day ≡ 0)
IsDateIn DayMinute month day = IsMonthAndDay month day
IsDateIn DaySecond month day = IsMonthAndDay month day

-- each field that the form has is in its range, and the others are 0
pub record IsTimeIn (form : TimeForm) (f : TimeFields) : Type 0 where
  pub hours : f.hours < 24
  pub minutes : f.minutes < 60
  pub seconds : IsSecondIn form f.seconds
  pub date : IsDateIn form f.month f.day
