use Rattle.std.proofs.Common.{◌<◌, ℕ, arith, get_or, ap, ◌∙◌, sym, length-set, subst}
use Rattle.std.specs.Int.Bits.{bit_xor}
use Rattle.poly256.specs.Polynomial.{element_product}
use Rattle.rs_code.proofs.Places.{set_keeps}
use Rattle.rs_code.proofs.Solving.{quotient_grows, not_zero_apart}
use Rattle.rs_code.proofs.values.unweigh.Goals as goal

pub div-requires : goal.div-requires
div-requires c =
    let apart = not_zero_apart (get_or c.args.points.now c.loop-i.i 0) c.args.point (c.requires.apart c.loop-i.i (omega arith)) in
    subst (λ (x : ℕ). 0 < x) (sym (c.add-weight.ensures.value ∙ ap (λ (x : ℕ). bit_xor x c.args.point) c.of.ensures.value)) apart

pub loop-i-preserved : goal.loop-i-preserved
loop-i-preserved c = record {
  long = length-set _ _ _ ∙ c.loop-i.invariant.long;
  divided =
      quotient_grows c.loop-i.values c.args.values.now c.args.points.now c.args.point c.loop-i.i _
      (let l = c.loop-i.invariant.long in let r = c.requires.long in omega arith)
      (ap (element_product c.byte.result) (sym (c.add-weight.ensures.value ∙ ap (λ (x : ℕ). bit_xor x c.args.point) c.of.ensures.value))
      ∙ ap (λ (x : ℕ). element_product x c.add-weight.result) c.byte.ensures
      ∙ c.div.ensures.value ∙ c.of-in-loop-i.ensures.value ∙ c.loop-i.invariant.left c.loop-i.i (omega arith))
      c.loop-i.invariant.divided;
  left = λ k h. set_keeps c.loop-i.values c.loop-i.i k _ (omega arith) ∙ c.loop-i.invariant.left k (omega arith);
}

pub returns : goal.returns
returns c = λ i h. c.loop-i.invariant.divided i (omega arith)
