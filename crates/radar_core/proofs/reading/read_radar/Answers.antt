use Rattle.std.proofs.Common.{sym, ◌∙◌, arith}
use Rattle.radar_core.proofs.FrontLemmas.{has_front, is_short, bad_scale, run_read, bitmap_read}
use Rattle.radar_core.proofs.reading.read_radar.Goals as goal

pub returns-in_default : goal.returns-in_default
returns-in_default c = sym (is_short c.args.product c.args.payload.now (omega arith))

pub returns-then-scale-eq3 : goal.returns-then-scale-eq3
returns-then-scale-eq3 c =
    let p = c.args.payload.now in
    sym (bad_scale c.args.product p (has_front p (omega arith) (λ k. omega (arith, c.type_inv.payload k))) c.if-scale-eq3.true)

pub returns-then-first-eq1 : goal.returns-then-first-eq1
returns-then-first-eq1 c =
    let p = c.args.payload.now in
    c.read_runs.ensures
    ∙ sym
    (run_read c.args.product p _ _ (has_front p (omega arith) (λ k. omega (arith, c.type_inv.payload k))) c.if-scale-eq3.false
    c.if-first-eq1.true c.split_at.ensures.back c.from_be_bytes.ensures)

pub returns-else-first-eq1 : goal.returns-else-first-eq1
returns-else-first-eq1 c =
    let p = c.args.payload.now in
    c.read_bitmap.ensures
    ∙ sym
    (bitmap_read c.args.product p _ _ (has_front p (omega arith) (λ k. omega (arith, c.type_inv.payload k))) c.if-scale-eq3.false
    c.if-first-eq1.false c.split_at.ensures.back c.from_be_bytes.ensures)
