use Rattle.std.proofs.Common.{◌∙◌, ◌≡◌, ◌<◌, ◌≤◌, ◌-◌, length, arith, ap, sym, get_or}
use Rattle.poly256.specs.Polynomial.{element_product}
use Rattle.poly256.proofs.Divisions.{division_init, division_step, not_empty}
use Rattle.poly256.proofs.room.divide.Goals as goal

pub loop-top-init : goal.loop-top-init
loop-top-init c =
    division_init c.field_laws.ensures c.args.rest.now c.args.divisor.now c.args.quotient.now c.args.len c.requires.zeros c.requires.past

pub loop-top-preserved : goal.loop-top-preserved
loop-top-preserved c =
    let some : 0 < length c.args.divisor.now = not_empty c.args.divisor.now c.requires.lead in
    let more : length c.args.divisor.now ≤ c.loop-top.top = c.loop-top-test.true in
    let within : c.loop-top.top ≤ c.args.len = c.loop-top.invariant.within in
    let lead : element_product c.div-factor.result (get_or c.args.divisor.now (length c.args.divisor.now - 1) 0)
    ≡ get_or c.loop-top.rest (c.loop-top.top - 1) 0 =
    ap (element_product c.div-factor.result) (sym c.of-lead.ensures.value) ∙ c.div-factor.ensures.value ∙ c.of.ensures.value in
    rw (c.add_multiple.ensures, c.byte.ensures)
    (division_step c.field_laws.ensures c.args.rest.now c.args.divisor.now c.loop-top.quotient c.loop-top.rest
    (c.loop-top.top - length c.args.divisor.now) c.div-factor.result c.loop-top.top c.args.len c.loop-top.invariant some
    (omega arith) (omega arith) lead)
