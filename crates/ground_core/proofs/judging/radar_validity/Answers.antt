use Rattle.std.proofs.Common.{None, sym, subst}
use Rattle.life_table.specs.LifeTable.{RadarRow, radar}
use Rattle.ground_core.specs.Told.{IsTold}
use Rattle.ground_core.proofs.JudgedRadar.{radar_judged, known_product}
use Rattle.ground_core.proofs.judging.radar_validity.Goals as goal

pub timing_fault-requires : goal.timing_fault-requires
timing_fault-requires c = c.in-Some.ensures.bounded

pub returns-in-Some-timing_fault-clause-fault : goal.returns-in-Some-timing_fault-clause-fault
returns-in-Some-timing_fault-clause-fault c kept =
    let row : RadarRow = radar c.args.product c.in-Some.row.life c.in-Some.row.form in
    subst (λ r. IsTold r c.in-Some-timing_fault.fault)
    (sym (radar_judged c.args.moment c.args.version c.args.is_named kept row _ (sym c.in-Some.ensures.row) c.if-not-is_named.false))
    (c.in-Some-timing_fault.ensures.tells kept None)

pub invariant_of-result : goal.invariant_of-result
invariant_of-result c = record { shown = c.in_default-timing_fault.ensures.shown; bounded = c.in-Some.ensures.bounded }

pub returns-clause-known : goal.returns-clause-known
returns-clause-known c =
    let row : RadarRow = radar c.args.product c.in-Some.row.life c.in-Some.row.form in
    known_product c.args.table.now c.args.product row c.radar_row.ensures.rules (sym c.in-Some.ensures.row)
