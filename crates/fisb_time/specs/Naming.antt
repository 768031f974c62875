-- Which moment the fields of a received time name. A time field has no year, and often no day, so
-- many moments have the same fields. Meant is the latest of them that is at most a minute after the
-- reception: what is broadcast lies in the past, and the minute allows for clocks that differ.
use Rattle.std.specs.Prelude.{◌≡◌, ℕ, zero, suc, ◌+◌, ◌*◌, ◌<◌, ◌≤◌, Bool, ◌&&◌, cond, IsTrue}
use Rattle.std.specs.Prelude.{Option, None, Some}
use Rattle.fisb_time.specs.declared.form.TimeForm.{TimeForm}
use Rattle.fisb_time.specs.declared.form.TimeForm.TheVariants.{Minute, Second, DayMinute, DaySecond}
use Rattle.fisb_time.specs.declared.form.TimeFields.{TimeFields}
use Rattle.fisb_time.specs.Moment.{IsMoment, day_seconds, is_moment}
use Rattle.fisb_time.specs.TimeForm.{shows}
use Rattle.fisb_time.specs.TimeFields.{shown_fields, same_fields}

-- fields that are received at 'received' can be those of 'moment'
pub record IsCandidate (form : TimeForm) (fields : TimeFields) (received moment : ℕ) : Type 0 where
  pub in_range : IsMoment moment
  pub not_ahead : moment ≤ received + 60
  pub showable : IsTrue (shows form moment)
  pub same : shown_fields form moment ≡ fields

-- the fields name this moment: it is the greatest candidate
pub record Names (form : TimeForm) (fields : TimeFields) (received moment : ℕ) : Type 0 where
  pub candidate : IsCandidate form fields received moment
  pub greatest : (other : ℕ) → IsCandidate form fields received other → other ≤ moment

-- For use inside other definitions, the same as a function. Never compute it at moments: it counts
-- down by seconds.

-- the number is a moment that the form shows with these fields
unfoldable pub has_fields : TimeForm → TimeFields → ℕ → Bool
has_fields form fields m = is_moment m && shows form m && same_fields (shown_fields form m) fields

-- the greatest number below a bound that passes a test
unfoldable pub greatest_below : ℕ → (ℕ → Bool) → Option ℕ
greatest_below zero test = None
greatest_below (suc n) test = cond (test n) (Some n) (greatest_below n test)

-- the moment that the fields name, if they name one
unfoldable pub named_moment : TimeForm → TimeFields → ℕ → Option ℕ
named_moment form fields received = greatest_below (received + 61) (has_fields form fields)

-- the seconds from a moment until its fields may name a later one: they come again after a day, or
-- with month and day after 365 days at the least
abbrev pub window : TimeForm → ℕ
window Minute = day_seconds
window Second = day_seconds
window DayMinute = 365 * day_seconds
window DaySecond = 365 * day_seconds

-- the fields of a moment in this form name that moment again where they are received from a minute
-- before it on, and earlier than a minute short of so many seconds after it
abbrev pub NamesAgain : TimeForm → ℕ → Type 0
NamesAgain form seconds = (moment received : ℕ) → IsMoment moment → IsMoment received
    → IsTrue (shows form moment) → moment ≤ received + 60 → received + 60 < moment + seconds
    → Names form (shown_fields form moment) received moment
