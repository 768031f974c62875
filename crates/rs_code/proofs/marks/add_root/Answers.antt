use Rattle.std.proofs.Common.{◌≡◌, ◌∷◌, ◌+◌, ℕ, suc, arith, get_or, ap, ap₂, ◌∙◌}
use Rattle.std.specs.Int.Bits.{bit_xor}
use Rattle.poly256.specs.Polynomial.{element_product}
use Rattle.list_members.specs.Places.{set_next}
use Rattle.rs_code.proofs.Places.{set_keeps}
use Rattle.rs_code.proofs.marks.add_root.Goals as goal

pub loop-k-preserved : goal.loop-k-preserved
loop-k-preserved c =
    let here : c.of-here.result ≡ get_or c.args.polynomial.now c.loop-k.k 0 = c.of-here.ensures.value ∙ c.loop-k.invariant.left c.loop-k.k (omega arith) in
    record {
      written = set_next (λ (k : ℕ). bit_xor (get_or (0 ∷ c.args.polynomial.now) k 0) (element_product c.args.point (get_or c.args.polynomial.now k 0)))
          c.loop-k.polynomial c.loop-k.k _ (omega arith)
          (c.byte.ensures ∙ c.add.ensures.value
          ∙ ap₂ bit_xor c.loop-k.invariant.before (c.times.ensures.value ∙ ap (element_product c.args.point) here))
          c.loop-k.invariant.written;
      left = λ k h. set_keeps c.loop-k.polynomial c.loop-k.k k _ (omega arith) ∙ c.loop-k.invariant.left k (omega arith);
      before = here ∙ ap (λ (k : ℕ). get_or (0 ∷ c.args.polynomial.now) k 0) (let e : suc c.loop-k.k ≡ c.loop-k.k + 1 = omega arith in e);
    }
