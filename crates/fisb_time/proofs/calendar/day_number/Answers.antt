use Rattle.std.proofs.Common.{◌≡◌, arith, pos, to_z, w16}
use Rattle.std.proofs.lemmas.Int.{to_z_pos}
use Rattle.jiff_core.specs.Calendar.{days_from_civil}
use Rattle.jiff_core.proofs.SignedLemmas.{signed_arith, one_part}
use Rattle.jiff_core.proofs.CalendarLemmas.{days_from_civil-day_count}
use Rattle.fisb_time.proofs.DateLemmas.{count_low}
use Rattle.fisb_time.proofs.calendar.day_number.Goals as goal

number :
    (c : goal.After-from) → days_from_civil (pos c.args.year) c.args.month c.args.day ≡ c.to_unix_epoch_day.result
number c =
    let same : to_z w16 c.args.year ≡ pos c.args.year = to_z_pos w16 c.args.year (omega arith) in
    let value = c.to_unix_epoch_day.ensures.value in
    grind arith

pub returns-clause-value : goal.returns-clause-value
returns-clause-value c =
    rw (number c) (omega (arith, signed_arith, one_part c.to_unix_epoch_day.result, number c, count_low c.args.year c.args.month c.args.day c.requires.years.0 c.requires.civil, days_from_civil-day_count (pos c.args.year) c.args.month c.args.day))

pub returns-clause-bound : goal.returns-clause-bound
returns-clause-bound c =
    omega (arith, signed_arith, one_part c.to_unix_epoch_day.result, number c, count_low c.args.year c.args.month c.args.day c.requires.years.0 c.requires.civil, days_from_civil-day_count (pos c.args.year) c.args.month c.args.day)
