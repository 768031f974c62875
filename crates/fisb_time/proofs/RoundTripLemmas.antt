-- Where fields are received soon enough after their moment, they name it.
use Rattle.std.proofs.Common.{◌≡◌, ℕ, ◌+◌, ◌-◌, ◌/◌, ◌%◌, ◌<◌, ◌≤◌, IsTrue, nat_lt, inl, inr, refl, ap, arith, pos}
use Rattle.std.proofs.lemmas.Bool.{eqb-true, cases_Bool, cases_order}
use Rattle.jiff_core.specs.Calendar.{IsCivilDate, day_count}
use Rattle.jiff_core.proofs.SignedLemmas.{signed_arith}
use Rattle.jiff_core.proofs.MarchLemmas.{days_in_year-leap_day}
use Rattle.jiff_core.proofs.CalendarLemmas.{day_count-day_of_year, day_count-later_year, days_of_months_table}
use Rattle.fisb_time.specs.declared.form.TimeForm.{TimeForm}
use Rattle.fisb_time.specs.declared.form.TimeForm.TheVariants.{Minute, Second, DayMinute, DaySecond}
use Rattle.fisb_time.specs.Moment.{IsMoment}
use Rattle.fisb_time.specs.CivilDate.{date_of}
use Rattle.fisb_time.specs.TimeForm.{shows}
use Rattle.fisb_time.specs.TimeFields.{shown_fields}
use Rattle.fisb_time.specs.Naming.{Names, window}
use Rattle.fisb_time.proofs.DateLemmas.{date_of-is, count_of_number, count-lt}

-- moments that a form shows alike lie at one second of a day
same_second :
    (form : TimeForm) (m n : ℕ) → IsTrue (shows form m) → IsTrue (shows form n) →
    shown_fields form m ≡ shown_fields form n → m % 86400 ≡ n % 86400
same_second Minute m n whole_m whole_n same =
    let a = eqb-true (m % 60) 0 whole_m in
    let b = eqb-true (n % 60) 0 whole_n in
    omega (arith, ap (λ f. f.hours) same, ap (λ f. f.minutes) same)
same_second Second m n whole_m whole_n same =
    omega (arith, ap (λ f. f.hours) same, ap (λ f. f.minutes) same, ap (λ f. f.seconds) same)
same_second DayMinute m n whole_m whole_n same =
    let a = eqb-true (m % 60) 0 whole_m in
    let b = eqb-true (n % 60) 0 whole_n in
    omega (arith, ap (λ f. f.hours) same, ap (λ f. f.minutes) same)
same_second DaySecond m n whole_m whole_n same =
    omega (arith, ap (λ f. f.hours) same, ap (λ f. f.minutes) same, ap (λ f. f.seconds) same)

-- one month and day of two years are at least 365 days apart
year_apart :
    (y later m d : ℕ) → IsCivilDate (pos y) m d → IsCivilDate (pos later) m d → y < later →
    day_count (pos y) m d + 365 ≤ day_count (pos later) m d
year_apart y later m d h k lt =
    let here = day_count-day_of_year (pos y) m d h.2.0 in
    let there = day_count-day_of_year (pos later) m d k.2.0 in
    let years = day_count-later_year (pos y) (pos later) (omega (arith, signed_arith)) (omega (arith, signed_arith)) in
    let table = days_of_months_table (pos y) (m - 1) (omega arith) in
    let table_later = days_of_months_table (pos later) (m - 1) (omega arith) in
    let long = days_in_year-leap_day (pos y) in
    elim (cases_Bool (nat_lt 1 (m - 1))) [
      | inl t ↦
          let a = rw t at table in
          let b = rw t at table_later in
          omega arith
      | inr f ↦
          let a = rw f at table in
          let b = rw f at table_later in
          omega arith
    ]

-- so moments with one month, day and second of the day are the same where they are closer
same_date_close :
    (m n : ℕ) → IsMoment m → IsMoment n → (date_of m).month ≡ (date_of n).month →
    (date_of m).day ≡ (date_of n).day → m % 86400 ≡ n % 86400 → m < n + 31536000 → m ≤ n
same_date_close m n range_m range_n month day second close =
    let a = date_of m in
    let b = date_of n in
    let h = date_of-is m range_m in
    let k = date_of-is n range_n in
    let count_a = count_of_number a.year a.month a.day (m / 86400) h.number in
    let count_b = count_of_number b.year b.month b.day (n / 86400) k.number in
    let civil : IsCivilDate (pos a.year) b.month b.day = rw (month, day) at h.civil in
    let count : day_count (pos a.year) b.month b.day ≡ 4371953 + m / 86400 = rw (month, day) at count_a in
    elim (cases_order a.year b.year) [
      | inl year ↦
          let same : day_count (pos b.year) b.month b.day ≡ 4371953 + m / 86400 = rw year at count in omega arith
      | inr (inl lt) ↦ omega (arith, count-lt a.year b.month b.day b.year b.month b.day civil k.civil lt)
      | inr (inr gt) ↦ absurd (omega (arith, year_apart b.year a.year b.month b.day k.civil civil gt))
    ]

-- a moment that is shown alike is not later, where it is closer than the form's window
not_later :
    (form : TimeForm) (m n : ℕ) → IsMoment m → IsMoment n → IsTrue (shows form m) →
    IsTrue (shows form n) → shown_fields form m ≡ shown_fields form n → m < n + window form → m ≤ n
not_later Minute m n range_m range_n whole_m whole_n same close =
    omega (arith, same_second Minute m n whole_m whole_n same)
not_later Second m n range_m range_n whole_m whole_n same close =
    omega (arith, same_second Second m n whole_m whole_n same)
not_later DayMinute m n range_m range_n whole_m whole_n same close =
    same_date_close m n range_m range_n (ap (λ f. f.month) same) (ap (λ f. f.day) same)
    (same_second DayMinute m n whole_m whole_n same) close
not_later DaySecond m n range_m range_n whole_m whole_n same close =
    same_date_close m n range_m range_n (ap (λ f. f.month) same) (ap (λ f. f.day) same)
    (same_second DaySecond m n whole_m whole_n same) close

pub Names-shown_fields :
    (form : TimeForm) (moment received : ℕ) → IsMoment moment → IsTrue (shows form moment) →
    moment ≤ received + 60 → received + 60 < moment + window form →
    Names form (shown_fields form moment) received moment
Names-shown_fields form moment received range showable late early =
    record {
      candidate = record { in_range = range; not_ahead = late; showable = showable; same = refl };
      greatest = λ other h.
          not_later form other moment h.in_range range h.showable showable h.same
          (omega (arith, h.not_ahead));
    }
