use Rattle.std.proofs.Common.{◌≡◌, ◌*◌, ◌+◌, ◌-◌, ◌<◌, ◌∷◌, ℕ, suc, List, length, drop, get_or, arith, ap, ap₂, sym, ◌∙◌, drop-cons}
use Rattle.std.specs.Int.Bits.{bit_xor}
use Rattle.std.proofs.lemmas.List.{drop_all, length-drop}
use Rattle.list_members.specs.Places.{get_or-zeros}
use Rattle.poly256.specs.Polynomial.{element_product, element_power}
use Rattle.rs_code.specs.CodeWord.{power_sum}
use Rattle.rs_code.proofs.PowerSums.{power_sum-cons, power_sum-empty}
use Rattle.rs_code.proofs.mend.sums_by_rows.Goals as goal

pub loop-power-init : goal.loop-power-init
loop-power-init c = λ k h.
    get_or-zeros 32 k
    ∙ sym (ap (λ (w : List ℕ). power_sum w (120 + k)) (drop_all (length c.args.word.now - 0) c.args.word.now (omega arith)) ∙ power_sum-empty (120 + k))

pub loop-power-preserved : goal.loop-power-preserved
loop-power-preserved c = λ k h.
    let inside : c.loop-power.power < length c.args.word.now = c.loop-power-test.true in
    let next : suc (length c.args.word.now - 1 - c.loop-power.power) ≡ length c.args.word.now - c.loop-power.power = omega arith in
    let rest : length (drop (length c.args.word.now - c.loop-power.power) c.args.word.now) ≡ c.loop-power.power =
    let l = length-drop (length c.args.word.now - c.loop-power.power) c.args.word.now in omega arith in
    let list : drop (length c.args.word.now - (c.loop-power.power + 1)) c.args.word.now
    ≡ get_or c.args.word.now (length c.args.word.now - 1 - c.loop-power.power) 0 ∷ drop (length c.args.word.now - c.loop-power.power) c.args.word.now =
    ap (λ (n : ℕ). drop n c.args.word.now)
    (let m : length c.args.word.now - (c.loop-power.power + 1) ≡ length c.args.word.now - 1 - c.loop-power.power = omega arith in m)
    ∙ drop-cons c.args.word.now (length c.args.word.now - 1 - c.loop-power.power) 0 (omega arith)
    ∙ ap (λ (n : ℕ). get_or c.args.word.now (length c.args.word.now - 1 - c.loop-power.power) 0 ∷ drop n c.args.word.now) next in
    c.add_to_sums.ensures k h
    ∙ ap₂ bit_xor (c.loop-power.invariant k h)
    (ap (λ (n : ℕ). element_product (get_or c.args.word.now (length c.args.word.now - 1 - c.loop-power.power) 0) (element_power 2 ((120 + k) * n))) (sym rest))
    ∙ c.field_laws.ensures.sum_comm (power_sum (drop (length c.args.word.now - c.loop-power.power) c.args.word.now) (120 + k))
    (element_product (get_or c.args.word.now (length c.args.word.now - 1 - c.loop-power.power) 0)
    (element_power 2 ((120 + k) * length (drop (length c.args.word.now - c.loop-power.power) c.args.word.now))))
    ∙ sym (ap (λ (w : List ℕ). power_sum w (120 + k)) list
    ∙ power_sum-cons (get_or c.args.word.now (length c.args.word.now - 1 - c.loop-power.power) 0)
    (drop (length c.args.word.now - c.loop-power.power) c.args.word.now) (120 + k))

pub returns : goal.returns
returns c = λ k h.
    c.loop-power.invariant k h
    ∙ ap (λ (n : ℕ). power_sum (drop n c.args.word.now) (120 + k))
    (let t = c.loop-power-test.false in let m : length c.args.word.now - c.loop-power.power ≡ 0 = omega arith in m)
