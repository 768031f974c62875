use Rattle.std.proofs.Common.{◌≡◌, ◌/◌, arith, pos, to_z, w64}
use Rattle.std.proofs.lemmas.Int.{to_z_pos}
use Rattle.std.proofs.lemmas.Grind.{common_steps}
use Rattle.jiff_core.specs.Date.{epoch_day}
use Rattle.fisb_time.proofs.DateLemmas.{date_parts}
use Rattle.fisb_time.proofs.calendar.date_at.Goals as goal

number : (c : goal.After-from_plain) → epoch_day c.from_plain.result ≡ pos (c.args.seconds / 86400)
number c =
    let same : to_z w64 (c.args.seconds / 86400) ≡ pos (c.args.seconds / 86400) = to_z_pos w64 (c.args.seconds / 86400) (omega arith) in
    grind (arith, common_steps)

pub returns-clause-year : goal.returns-clause-year
returns-clause-year c = (date_parts c.args.seconds c.from_plain.result c.requires (number c)).0

pub returns-clause-month : goal.returns-clause-month
returns-clause-month c = (date_parts c.args.seconds c.from_plain.result c.requires (number c)).1

pub returns-clause-day : goal.returns-clause-day
returns-clause-day c = (date_parts c.args.seconds c.from_plain.result c.requires (number c)).2
