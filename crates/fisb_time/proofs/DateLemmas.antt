-- The date of a moment: the walk finds it, and the calendar has no other one for that day.
use Rattle.std.proofs.Common.{◌≡◌, ℕ, zero, suc, ◌+◌, ◌-◌, ◌*◌, ◌/◌, ◌%◌, ◌<◌, ◌≤◌, inl, inr, nat_lt, refl, sym, ap, ◌∙◌, arith, rules, pos}
use Rattle.std.proofs.lemmas.Bool.{cases_Bool, cases_order}
use Rattle.std.proofs.lemmas.Bool.Decides.{nat_tests}
use Rattle.jiff_core.specs.declared.civil.date.Date.{Date}
use Rattle.jiff_core.specs.Date.{epoch_day}
use Rattle.jiff_core.specs.Calendar.{IsCivilDate, days_in_year, days_in_month, day_count, days_from_civil}
use Rattle.jiff_core.proofs.MarchLemmas.{day_count-early}
use Rattle.jiff_core.proofs.SignedLemmas.{signed_arith}
use Rattle.jiff_core.proofs.DateLemmas.{epoch_day_injective}
use Rattle.jiff_core.proofs.CalendarLemmas.{day_count-epoch, days_from_civil-day_count, day_count-lt_year, day_count-lt_month, day_count-day, day_count-next_month, day_count-next_year, day_count-day_of_year, day_count-last_of_year, days_of_months_all}
use Rattle.fisb_time.specs.Moment.{IsMoment}
use Rattle.fisb_time.specs.CivilDate.{CivilDate, IsDateOf, walk_months, walk_years, date_of}

-- a day number as the calendar's count of days, which begins in the year -10000
pub count_of_number :
    (y m d n : ℕ) → days_from_civil (pos y) m d ≡ pos n → day_count (pos y) m d ≡ 4371953 + n
count_of_number y m d n e = omega (arith, signed_arith, days_from_civil-day_count (pos y) m d)

pub number_of_count :
    (y m d n : ℕ) → day_count (pos y) m d ≡ 4371953 + n → days_from_civil (pos y) m d ≡ pos n
number_of_count y m d n e = omega (arith, signed_arith, days_from_civil-day_count (pos y) m d)

count_2000 : day_count (pos 2000) 1 1 ≡ 4382910
count_2000 = day_count-early (pos 2000) 11999 1 1 refl (omega arith) (omega arith) (omega arith)

count_2100 : day_count (pos 2100) 1 1 ≡ 4419435
count_2100 = day_count-early (pos 2100) 12099 1 1 refl (omega arith) (omega arith) (omega arith)

-- the next year begins after the days of this one
next_year : (y : ℕ) → day_count (pos (y + 1)) 1 1 ≡ day_count (pos y) 1 1 + days_in_year (pos y)
next_year y =
    day_count-next_year (pos y) (pos (y + 1)) (omega (arith, signed_arith)) (omega (arith, signed_arith))

-- a month after December would begin where the next year does
month_13 : (y : ℕ) → day_count (pos y) 13 1 ≡ day_count (pos y) 1 1 + days_in_year (pos y)
month_13 y =
    omega (arith, day_count-day_of_year (pos y) 13 1 (omega arith), days_of_months_all (pos y))

-- the walk over months ends in the month that has the day
walk_months-civil :
    (n y m days : ℕ) → 1 ≤ m → m + n ≡ 13 → 1970 ≤ y → y ≤ 2099 →
    day_count (pos y) m 1 + days < day_count (pos y) 13 1 →
    (IsCivilDate (pos (walk_months n y m days).year) (walk_months n y m days).month (walk_months n y m days).day)
    × (day_count (pos (walk_months n y m days).year) (walk_months n y m days).month (walk_months n y m days).day ≡ day_count (pos y) m 1 + days)
unfolding walk_months
walk_months-civil zero y m days low place first last within =
    let end : m ≡ 13 = omega arith in absurd (omega (arith, ap (λ k. day_count (pos y) k 1) end))
walk_months-civil (suc n) y m days low place first last within =
    elim (cases_Bool (nat_lt days (days_in_month (pos y) m))) [
      | inl t ↦
          let here : days < days_in_month (pos y) m = grind (arith, nat_tests) in
          rw t (((omega (arith, signed_arith), omega (arith, signed_arith)), (low, omega arith), (omega arith, omega arith)), omega (arith, day_count-day (pos y) m (days + 1) 1 (omega arith) (omega arith)))
      | inr f ↦
          let later : days_in_month (pos y) m ≤ days = grind (arith, nat_tests) in
          let next = day_count-next_month (pos y) m low in
          let rest = walk_months-civil n y (m + 1) (days - days_in_month (pos y) m) (omega arith) (omega arith) first last (omega arith) in
          rw f (rest.0, omega (arith, rest.1))
    ]

-- and so does the walk over years
walk_years-civil :
    (n y days : ℕ) → 1970 ≤ y → y + n ≤ 2099 →
    day_count (pos y) 1 1 + days < day_count (pos (y + n + 1)) 1 1 →
    (IsCivilDate (pos (walk_years n y days).year) (walk_years n y days).month (walk_years n y days).day)
    × (day_count (pos (walk_years n y days).year) (walk_years n y days).month (walk_years n y days).day ≡ day_count (pos y) 1 1 + days)
unfolding walk_years
walk_years-civil zero y days first last within =
    let end : y + 0 + 1 ≡ y + 1 = omega arith in
    walk_months-civil 12 y 1 days (omega arith) refl first (omega arith)
    (omega (arith, ap (λ k. day_count (pos k) 1 1) end, next_year y, month_13 y))
walk_years-civil (suc n) y days first last within =
    elim (cases_Bool (nat_lt days (days_in_year (pos y)))) [
      | inl t ↦
          let here : days < days_in_year (pos y) = grind (arith, nat_tests) in
          rw t (walk_months-civil 12 y 1 days (omega arith) refl first (omega arith) (omega (arith, month_13 y)))
      | inr f ↦
          let later : days_in_year (pos y) ≤ days = grind (arith, nat_tests) in
          let next = next_year y in
          let end : y + suc n + 1 ≡ y + 1 + n + 1 = omega arith in
          let rest = walk_years-civil n (y + 1) (days - days_in_year (pos y)) (omega arith) (omega arith)
          (omega (arith, ap (λ k. day_count (pos k) 1 1) end)) in
          rw f (rest.0, omega (arith, rest.1))
    ]

-- the function's date is the moment's
pub date_of-is : (m : ℕ) → IsMoment m → IsDateOf m (date_of m)
unfolding date_of
date_of-is m range =
    let days = m / 86400 - 10957 in
    let walked = walk_years-civil 99 2000 days (omega arith) (omega arith) (omega (arith, count_2000, count_2100)) in
    let date = walk_years 99 2000 days in
    record {
      civil = walked.0;
      number = number_of_count date.year date.month date.day (m / 86400) (omega (arith, walked.1, count_2000));
    }

-- what comes later in the order of year, month and day has a greater count
pub count-lt :
    (y m d y₂ m₂ d₂ : ℕ) → IsCivilDate (pos y) m d → IsCivilDate (pos y₂) m₂ d₂ → y < y₂ →
    day_count (pos y) m d < day_count (pos y₂) m₂ d₂
count-lt y m d y₂ m₂ d₂ h k lt =
    day_count-lt_year (pos y) m d (pos y₂) m₂ d₂ h k.2.0 (omega (arith, signed_arith))

-- two dates with one count have the same parts
same_parts :
    (y m d y₂ m₂ d₂ : ℕ) → IsCivilDate (pos y) m d → IsCivilDate (pos y₂) m₂ d₂ →
    day_count (pos y) m d ≡ day_count (pos y₂) m₂ d₂ → (y ≡ y₂) × (m ≡ m₂) × (d ≡ d₂)
same_parts y m d y₂ m₂ d₂ h k e =
    elim (cases_order y y₂) [
      | inr (inl lt) ↦ absurd (omega (arith, count-lt y m d y₂ m₂ d₂ h k lt))
      | inr (inr gt) ↦ absurd (omega (arith, count-lt y₂ m₂ d₂ y m d k h gt))
      | inl year ↦
          let at : day_count (pos y) m d ≡ day_count (pos y) m₂ d₂ = rw (sym year) at e in
          let there : IsCivilDate (pos y) m₂ d₂ = rw (sym year) at k in
          elim (cases_order m m₂) [
            | inr (inl lt) ↦ absurd (omega (arith, day_count-lt_month (pos y) m d m₂ d₂ h k.2.0 lt))
            | inr (inr gt) ↦ absurd (omega (arith, day_count-lt_month (pos y) m₂ d₂ m d there h.2.0 gt))
            | inl month ↦
                let with : day_count (pos y) m d ≡ day_count (pos y) m d₂ = rw (sym month) at at in
                (year, month, omega (arith, day_count-day (pos y) m d d₂ h.2.0 k.2.0))
          ]
    ]

same_date : (a b : CivilDate) → a.year ≡ b.year → a.month ≡ b.month → a.day ≡ b.day → a ≡ b
same_date a b year month day = grind arith

-- a moment has one date
pub IsDateOf-unique : (m : ℕ) (a b : CivilDate) → IsDateOf m a → IsDateOf m b → a ≡ b
IsDateOf-unique m a b h k =
    let here = count_of_number a.year a.month a.day (m / 86400) h.number in
    let there = count_of_number b.year b.month b.day (m / 86400) k.number in
    let parts = same_parts a.year a.month a.day b.year b.month b.day h.civil k.civil (omega arith) in
    same_date a b parts.0 parts.1 parts.2

-- so the function finds the one date that the calendar has for the day
pub date_of-by : (m : ℕ) (date : CivilDate) → IsMoment m → IsDateOf m date → date_of m ≡ date
date_of-by m date range h = IsDateOf-unique m (date_of m) date (date_of-is m range) h

-- the parts of the calendar's own date
pub date_parts :
    (m : ℕ) (d : Date) → IsMoment m → epoch_day d ≡ pos (m / 86400) →
    (d.year ≡ pos (date_of m).year) × (d.month ≡ (date_of m).month) × (d.day ≡ (date_of m).day)
date_parts m d range number =
    let h = date_of-is m range in
    let own : Date = record {
      year = pos (date_of m).year;
      month = (date_of m).month;
      day = (date_of m).day;
      year_in = h.civil.0;
      month_in = h.civil.1;
      day_in = h.civil.2;
    } in
    epoch_day_injective d own (number ∙ sym h.number)

-- after 1970 no day number is negative
pub count_low : (y m d : ℕ) → 1971 ≤ y → IsCivilDate (pos y) m d → 4371953 ≤ day_count (pos y) m d
count_low y m d late h =
    let first : IsCivilDate (pos 1970) 1 1 = search (rules, signed_arith) in
    omega (arith, count-lt 1970 1 1 y m d first h (omega arith), day_count-epoch)

-- a moment lies in a year of the century
pub year_in : (m : ℕ) → IsMoment m → (2000 ≤ (date_of m).year) × ((date_of m).year ≤ 2099)
year_in m range =
    let h = date_of-is m range in
    let date = date_of m in
    let count = count_of_number date.year date.month date.day (m / 86400) h.number in
    let first : IsCivilDate (pos 2000) 1 1 = search (rules, signed_arith) in
    let last : IsCivilDate (pos 2099) 12 31 = search (rules, signed_arith) in
    let low : 2000 ≤ date.year = elim (cases_order date.year 2000) [
      | inl e ↦ omega arith
      | inr (inl lt) ↦ absurd (omega (arith, count-lt date.year date.month date.day 2000 1 1 h.civil first lt, count_2000))
      | inr (inr gt) ↦ omega arith
    ] in
    let high : date.year ≤ 2099 = elim (cases_order date.year 2099) [
      | inl e ↦ omega arith
      | inr (inl lt) ↦ omega arith
      | inr (inr gt) ↦ absurd (omega (arith, count-lt 2099 12 31 date.year date.month date.day last h.civil gt, day_count-last_of_year (pos 2099), next_year 2099, count_2100))
    ] in
    (low, high)

-- what is earlier lies in no later year
pub year_up_to :
    (m later : ℕ) → IsMoment m → IsMoment later → m ≤ later → (date_of m).year ≤ (date_of later).year
year_up_to m later range_m range before =
    let a = date_of m in
    let b = date_of later in
    let h = date_of-is m range_m in
    let k = date_of-is later range in
    let count_a = count_of_number a.year a.month a.day (m / 86400) h.number in
    let count_b = count_of_number b.year b.month b.day (later / 86400) k.number in
    elim (cases_order a.year b.year) [
      | inl e ↦ omega arith
      | inr (inl lt) ↦ omega arith
      | inr (inr gt) ↦ absurd (omega (arith, count-lt b.year b.month b.day a.year a.month a.day k.civil h.civil gt))
    ]

-- a second of a day with this number lies on the date of that number
pub on_number :
    (y month day number second : ℕ) → IsCivilDate (pos y) month day →
    days_from_civil (pos y) month day ≡ pos number → second < 86400 →
    IsMoment (number * 86400 + second) →
    ((date_of (number * 86400 + second)).month ≡ month) × ((date_of (number * 86400 + second)).day ≡ day)
on_number y month day number second h is below range =
    let m = number * 86400 + second in
    let whole : m / 86400 ≡ number = omega arith in
    let own : IsDateOf m (record { year = y; month = month; day = day }) = record { civil = h; number = rw whole is } in
    let same = date_of-by m (record { year = y; month = month; day = day }) range own in
    (ap (λ d. d.month) same, ap (λ d. d.day) same)

-- a moment with the month and day of a date is that of the year, or an earlier one by the year
pub at_or_before :
    (m y month day number second : ℕ) → IsMoment m → (date_of m).month ≡ month →
    (date_of m).day ≡ day → m % 86400 ≡ second → IsCivilDate (pos y) month day →
    days_from_civil (pos y) month day ≡ pos number → (date_of m).year ≤ y →
    (m ≤ number * 86400 + second) × ((date_of m).year ≡ y → m ≡ number * 86400 + second)
at_or_before m y month day number second range on_month on_day at h is not_later =
    let own = date_of-is m range in
    let date = date_of m in
    let count = count_of_number date.year date.month date.day (m / 86400) own.number in
    let there = count_of_number y month day number is in
    let same : date.year ≡ y → m ≡ number * 86400 + second = λ e.
    let here : day_count (pos y) month day ≡ 4371953 + m / 86400 = rw (e, on_month, on_day) at count in
    omega arith in
    elim (cases_order date.year y) [
      | inl e ↦ let it = same e in (omega arith, same)
      | inr (inl lt) ↦ (omega (arith, count-lt date.year date.month date.day y month day own.civil h lt), same)
      | inr (inr gt) ↦ absurd (omega arith)
    ]

-- in a year before that of a moment every date is earlier
pub before_year :
    (m y month day number second : ℕ) → IsMoment m → IsCivilDate (pos y) month day →
    days_from_civil (pos y) month day ≡ pos number → second < 86400 → y < (date_of m).year →
    number * 86400 + second ≤ m
before_year m y month day number second range h is below earlier =
    let own = date_of-is m range in
    let date = date_of m in
    let count = count_of_number date.year date.month date.day (m / 86400) own.number in
    let there = count_of_number y month day number is in
    omega (arith, count-lt y month day date.year date.month date.day h own.civil earlier)
