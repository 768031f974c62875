use Rattle.std.proofs.Common.{◌≡◌, ◌≤◌, ◌-◌, ◌+◌, ℕ, suc, List, length, take, get_or, arith, ap, sym, ◌∙◌, add-one}
use Rattle.std.proofs.lemmas.List.{take_all}
use Rattle.poly256.specs.Polynomial.{element_power}
use Rattle.rs_code.specs.CodeWord.{power_sum}
use Rattle.rs_code.specs.Mending.{without}
use Rattle.rs_code.proofs.Marked.{without-none, sums_without}
use Rattle.rs_code.proofs.marks.take_from_sums.Goals as goal

pub loop-mark-init : goal.loop-mark-init
loop-mark-init g c = λ word first long sums k h.
    sums k (omega arith) ∙ sym (ap (λ (w : List ℕ). power_sum w (first + k)) (without-none word))

pub loop-mark-preserved : goal.loop-mark-preserved
loop-mark-preserved g c = λ word first long sums k h.
    let same : length c.loop-mark.sums ≡ length c.args.sums.now = c.loop-mark.auto.sums in
    sums_without c.field_laws.ensures c.args.marks.now word c.add_next.new.sums c.loop-mark.sums c.point_of.result c.loop-mark.mark-index first k
    c.loop-mark-test.true
    (c.point_of.ensures ∙ ap (λ (n : ℕ). element_power 2 (n - 1 - get_or c.args.marks.now c.loop-mark.mark-index 0)) (sym long))
    (c.loop-mark.invariant word first long sums k (omega arith))
    (c.loop-mark.invariant word first long sums (suc k) (omega arith))
    (c.add_next.ensures k (omega arith))
    ∙ ap (λ (n : ℕ). power_sum (without (take n c.args.marks.now) word) (first + k)) (sym (add-one c.loop-mark.mark-index))

pub returns : goal.returns
returns g c = λ word first long sums k h.
    let end : c.loop-mark.mark-index ≤ length c.args.marks.now = c.loop-mark.auto.mark-index-end in
    c.loop-mark.invariant word first long sums k (omega arith)
    ∙ ap (λ (ms : List ℕ). power_sum (without ms word) (first + k))
    (take_all c.loop-mark.mark-index c.args.marks.now (let t = c.loop-mark-test.false in omega arith))
