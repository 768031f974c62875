use Rattle.fisb_time.specs.declared.form.TimeForm.TheVariants.{DayMinute, DaySecond}
use Rattle.fisb_time.proofs.laws.date_round_trip.Goals as goal

pub returns-clause-minutes : goal.returns-clause-minutes
returns-clause-minutes c = c.form_round_trip.ensures.names DayMinute

pub returns-clause-seconds : goal.returns-clause-seconds
returns-clause-seconds c = c.form_round_trip.ensures.names DaySecond
