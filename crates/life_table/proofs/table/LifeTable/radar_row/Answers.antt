use Rattle.life_table.specs.Views.{table_of}
use Rattle.life_table.proofs.Finding.{radar_absent, radar_lent}
use Rattle.life_table.proofs.Greatest.{lent_radar_short}
use Rattle.life_table.proofs.table.LifeTable.radar_row.Goals as goal

pub returns-in_default-clause-row : goal.returns-in_default-clause-row
returns-in_default-clause-row c =
    let t = c.self.inside in
    let absent = rw c.deref.ensures at (rw c.as_slice.ensures.value at (rw c.in_default.is at c.radar_of.ensures)) in
    let e = radar_absent c.args.product t.late t.texts.value.items t.radars.value.items absent in
    rw (← c.self.view_is) e

pub returns-clause-row : goal.returns-clause-row
returns-clause-row c =
    let t = c.self.inside in
    let found = rw c.deref.ensures at (rw c.as_slice.ensures.value at (rw c.in-Some.is at c.radar_of.ensures)) in
    let e = radar_lent c.args.product t.late t.texts.value.items t.radars.value.items c.in-Some.row.now found in
    rw (← c.self.view_is) e

pub returns-clause-bounded : goal.returns-clause-bounded
returns-clause-bounded c =
    let t = c.self.inside in
    let kept = c.in-Some.row.now in
    let found = rw c.deref.ensures at (rw c.as_slice.ensures.value at (rw c.in-Some.is at c.radar_of.ensures)) in
    let e = radar_lent c.args.product t.late t.texts.value.items t.radars.value.items kept found in
    lent_radar_short (table_of t.late t.texts.value.items t.radars.value.items) c.args.product kept.life kept.form c.self.invariant e
