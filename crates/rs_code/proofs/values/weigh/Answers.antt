use Rattle.std.proofs.Common.{◌≡◌, ◌∷◌, ◌+◌, ℕ, suc, arith, get_or, ap, ap₂, ◌∙◌}
use Rattle.std.specs.Int.Bits.{bit_xor}
use Rattle.poly256.specs.Polynomial.{element_product}
use Rattle.list_members.specs.Places.{set_next}
use Rattle.rs_code.proofs.Places.{set_keeps}
use Rattle.rs_code.proofs.values.weigh.Goals as goal

pub loop-i-preserved : goal.loop-i-preserved
loop-i-preserved c =
    let here : c.of-here.result ≡ get_or c.args.sums.now c.loop-i.i 0 = c.of-here.ensures.value ∙ c.loop-i.invariant.left c.loop-i.i (omega arith) in
    record {
      written = set_next (λ (k : ℕ). bit_xor (get_or c.args.sums.now k 0) (element_product c.args.point (get_or (0 ∷ c.args.sums.now) k 0)))
          c.loop-i.sums c.loop-i.i _ (omega arith)
          (c.byte.ensures ∙ c.add.ensures.value
          ∙ ap₂ bit_xor here (c.times.ensures.value ∙ ap (element_product c.args.point) c.loop-i.invariant.before))
          c.loop-i.invariant.written;
      left = λ k h. set_keeps c.loop-i.sums c.loop-i.i k _ (omega arith) ∙ c.loop-i.invariant.left k (omega arith);
      before = here ∙ ap (λ (k : ℕ). get_or (0 ∷ c.args.sums.now) k 0) (let e : suc c.loop-i.i ≡ c.loop-i.i + 1 = omega arith in e);
    }
