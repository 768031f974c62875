use Rattle.std.proofs.Common.{ℕ, List, take, get_or, arith, ap, ap₂, sym, ◌∙◌, add-one}
use Rattle.std.specs.Int.Bits.{bit_xor}
use Rattle.std.proofs.lemmas.List.{take_all}
use Rattle.list_members.specs.Places.{get_or-zeros}
use Rattle.poly256.specs.Polynomial.{element_product, element_power, value_at}
use Rattle.rs_code.proofs.PointValues.{value_at-more}
use Rattle.rs_code.proofs.Mending.{power-power}
use Rattle.rs_code.proofs.wrong_places.values_by_rows.Goals as goal

pub loop-power-init : goal.loop-power-init
loop-power-init c = λ k h. get_or-zeros 96 k ∙ sym (c.value_laws.ensures.of_zero (element_power 2 k))

pub loop-power-preserved : goal.loop-power-preserved
loop-power-preserved c = λ k h.
    c.add_to_values.ensures k h
    ∙ ap₂ bit_xor (c.loop-power.invariant k h)
    (ap (element_product (get_or c.args.polynomial.now c.loop-power.power 0)) (power-power c.field_laws.ensures 2 k c.loop-power.power))
    ∙ sym (ap (λ (n : ℕ). value_at (take n c.args.polynomial.now) (element_power 2 k)) (add-one c.loop-power.power)
    ∙ value_at-more c.args.polynomial.now c.loop-power.power (element_power 2 k) (omega arith))

pub returns : goal.returns
returns c = λ k h.
    c.loop-power.invariant k h
    ∙ ap (λ (cs : List ℕ). value_at cs (element_power 2 k))
    (take_all c.loop-power.power c.args.polynomial.now (let t = c.loop-power-test.false in omega arith))
