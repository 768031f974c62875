use Rattle.std.proofs.Common.{◌<◌, ℕ, List, take, get_or, arith, ap, ap₂, sym, ◌∙◌}
use Rattle.std.specs.Int.Bits.{bit_xor}
use Rattle.std.proofs.lemmas.List.{take_more, take_all}
use Rattle.poly256.specs.Polynomial.{element_product}
use Rattle.rs_code.specs.CodeWord.{power_sum}
use Rattle.rs_code.proofs.PowerSums.{power_sum-empty}
use Rattle.rs_code.proofs.Kernels.{power_sum-push}
use Rattle.rs_code.proofs.mend.sum_of_word.Goals as goal

pub loop-byte-init : goal.loop-byte-init
loop-byte-init c = record {
  fits = c.of-sum.ensures.fits;
  sum_so_far = c.of-sum.ensures.value ∙ sym (power_sum-empty c.args.power);
}

pub loop-byte-preserved : goal.loop-byte-preserved
loop-byte-preserved c =
    let F = c.field_laws.ensures in
    let byte : get_or c.args.word.now c.loop-byte.byte-index 0 < 256 = let v = c.of.ensures.value in let h = c.of.ensures.fits in omega arith in
    record {
      fits = c.add-sum.ensures.fits;
      sum_so_far =
          c.add-sum.ensures.value
          ∙ ap₂ bit_xor
          (c.times.ensures.value ∙ ap₂ element_product c.pow_alpha-point.ensures.value c.loop-byte.invariant.sum_so_far)
          c.of.ensures.value
          ∙ sym (ap (λ (w : List ℕ). power_sum w c.args.power) (take_more c.args.word.now c.loop-byte.byte-index 0 (omega arith))
          ∙ power_sum-push F (take c.loop-byte.byte-index c.args.word.now) (get_or c.args.word.now c.loop-byte.byte-index 0) c.args.power byte);
    }

pub returns : goal.returns
returns c = record {
  value =
      c.loop-byte.invariant.sum_so_far
      ∙ ap (λ (w : List ℕ). power_sum w c.args.power)
      (take_all c.loop-byte.byte-index c.args.word.now (let t = c.loop-byte-test.false in omega arith));
  fits = c.loop-byte.invariant.fits;
}
