use Rattle.std.proofs.Common.{◌≡◌, ◌≤◌, ◌-◌, ℕ, suc, get_or, arith, ap, ap₂, ◌∙◌}
use Rattle.std.specs.Int.Bits.{bit_xor}
use Rattle.poly256.specs.Polynomial.{element_product}
use Rattle.list_members.specs.Places.{set_next}
use Rattle.rs_code.proofs.Places.{set_keeps}
use Rattle.rs_code.proofs.marks.add_next.Goals as goal

pub loop-k-preserved : goal.loop-k-preserved
loop-k-preserved c =
    let low : 1 ≤ c.loop-k.k = c.loop-k.auto.k in
    let inside = c.loop-k-test.true in
    let next : c.loop-k.k ≡ suc (c.loop-k.k - 1) = omega arith in
    record {
      written = λ i h.
          set_next (λ (k : ℕ). bit_xor (get_or c.args.sums.now (suc k) 0) (element_product c.args.point (get_or c.args.sums.now k 0)))
          c.loop-k.sums (c.loop-k.k - 1) _ (omega arith)
          (c.byte.ensures ∙ c.add.ensures.value
          ∙ ap₂ bit_xor
          (c.of-in-loop-k.ensures.value ∙ c.loop-k.invariant.left c.loop-k.k (omega arith) ∙ ap (λ (k : ℕ). get_or c.args.sums.now k 0) next)
          (c.times-term.ensures.value ∙ ap (element_product c.args.point) (c.of.ensures.value ∙ c.loop-k.invariant.left (c.loop-k.k - 1) (omega arith))))
          (λ k h'. c.loop-k.invariant.written k (omega arith)) i (omega arith);
      left = λ k h. set_keeps c.loop-k.sums (c.loop-k.k - 1) k _ (omega arith) ∙ c.loop-k.invariant.left k (omega arith);
    }
