-- The four forms of the time field of an APDU: hours and minutes, with or without seconds, and with
-- or without month and day.
use Rattle.std.specs.Prelude.{ℕ, ◌%◌, ◌==◌, Bool, true}
use Rattle.fisb_time.specs.declared.form.TimeForm.{TimeForm}
use Rattle.fisb_time.specs.declared.form.TimeForm.TheVariants.{Minute, Second, DayMinute, DaySecond}

-- whether a form can show a moment: a form without seconds shows whole minutes alone
abbrev pub shows : TimeForm → ℕ → Bool
shows Minute m = m % 60 == 0
shows Second _ = true
shows DayMinute m = m % 60 == 0
shows DaySecond _ = true
