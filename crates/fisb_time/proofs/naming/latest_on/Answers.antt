-- The two dates that are tried have the day, and one of them is the latest moment's.
use Rattle.std.proofs.Common.{arith}
use Rattle.fisb_time.proofs.DateLemmas.{on_number, before_year}
use Rattle.fisb_time.proofs.LatestLemmas.{tried, first_try, second_try}
use Rattle.fisb_time.proofs.naming.latest_on.Goals as goal

pub day_number-requires-clause-years : goal.day_number-requires-clause-years
day_number-requires-clause-years c =
    let t = tried _ _ _ _ _ c.latest_second-latest.ensures.range c.years_between-step.ensures.range c.years_between-step.ensures.every c.year_at.ensures in
    (omega (arith, t.low), t.high)

pub day_number-requires-clause-civil : goal.day_number-requires-clause-civil
day_number-requires-clause-civil c =
    let t = tried _ _ _ _ _ c.latest_second-latest.ensures.range c.years_between-step.ensures.range c.years_between-step.ensures.every c.year_at.ensures in
    t.civil

pub overflow_sub-year : goal.overflow_sub-year
overflow_sub-year c =
    let t = tried _ _ _ _ _ c.latest_second-latest.ensures.range c.years_between-step.ensures.range c.years_between-step.ensures.every c.year_at.ensures in
    t.room

pub day_number-requires-else-last_time-latest-clause-years :
    goal.day_number-requires-else-last_time-latest-clause-years
day_number-requires-else-last_time-latest-clause-years c =
    let t = tried _ _ _ _ _ c.latest_second-latest.ensures.range c.years_between-step.ensures.range c.years_between-step.ensures.every c.year_at.ensures in
    (omega (arith, t.low), omega (arith, t.high))

pub day_number-requires-else-last_time-latest-clause-civil :
    goal.day_number-requires-else-last_time-latest-clause-civil
day_number-requires-else-last_time-latest-clause-civil c =
    let t = tried _ _ _ _ _ c.latest_second-latest.ensures.range c.years_between-step.ensures.range c.years_between-step.ensures.every c.year_at.ensures in
    t.civil_before

pub returns-then-last_time-latest-clause-on : goal.returns-then-last_time-latest-clause-on
returns-then-last_time-latest-clause-on c range =
    let t = tried _ _ _ _ _ c.latest_second-latest.ensures.range c.years_between-step.ensures.range c.years_between-step.ensures.every c.year_at.ensures in
    on_number _ c.args.month c.args.day c.day_number.result c.args.second_of_day t.civil c.day_number.ensures.value c.requires.second range

pub returns-then-last_time-latest-clause-latest : goal.returns-then-last_time-latest-clause-latest
returns-then-last_time-latest-clause-latest c m range not_ahead month day at =
    let t = tried _ _ _ _ _ c.latest_second-latest.ensures.range c.years_between-step.ensures.range c.years_between-step.ensures.every c.year_at.ensures in
    first_try c.latest_second-latest.result c.args.month c.args.day _ _ c.day_number.result c.args.second_of_day m t c.day_number.ensures.value
    (record { in_range = range; not_ahead = omega arith; on_month = month; on_day = day; at = at })

pub returns-else-last_time-latest-clause-on : goal.returns-else-last_time-latest-clause-on
returns-else-last_time-latest-clause-on c range =
    let t = tried _ _ _ _ _ c.latest_second-latest.ensures.range c.years_between-step.ensures.range c.years_between-step.ensures.every c.year_at.ensures in
    on_number _ c.args.month c.args.day c.day_number-else-last_time-latest.result c.args.second_of_day t.civil_before c.day_number-else-last_time-latest.ensures.value c.requires.second range

pub returns-else-last_time-latest-clause-not_ahead :
    goal.returns-else-last_time-latest-clause-not_ahead
returns-else-last_time-latest-clause-not_ahead c =
    let t = tried _ _ _ _ _ c.latest_second-latest.ensures.range c.years_between-step.ensures.range c.years_between-step.ensures.every c.year_at.ensures in
    omega (arith, before_year c.latest_second-latest.result _ c.args.month c.args.day c.day_number-else-last_time-latest.result c.args.second_of_day c.latest_second-latest.ensures.range t.civil_before c.day_number-else-last_time-latest.ensures.value c.requires.second t.earlier)

pub returns-else-last_time-latest-clause-latest : goal.returns-else-last_time-latest-clause-latest
returns-else-last_time-latest-clause-latest c m range not_ahead month day at =
    let t = tried _ _ _ _ _ c.latest_second-latest.ensures.range c.years_between-step.ensures.range c.years_between-step.ensures.every c.year_at.ensures in
    second_try c.latest_second-latest.result c.args.month c.args.day _ _ c.day_number.result c.day_number-else-last_time-latest.result c.args.second_of_day m t c.day_number.ensures.value c.day_number-else-last_time-latest.ensures.value c.if-last_time-latest.false
    (record { in_range = range; not_ahead = omega arith; on_month = month; on_day = day; at = at })
