use Rattle.std.proofs.Common.{◌≡◌, ◌+◌, ℕ, ◌∷◌, List, take, arith, inl, inr, ap, sym, ◌∙◌}
use Rattle.std.specs.Int.Bits.{bit_xor, xor_self}
use Rattle.std.proofs.lemmas.Bool.{cases_lt}
use Rattle.std.proofs.lemmas.List.{take_all, length-replicate}
use Rattle.list_members.specs.Places.{get_or-zeros}
use Rattle.poly256.specs.Polynomial.{element_product, element_power}
use Rattle.rs_code.specs.CodeWord.{power_sum}
use Rattle.rs_code.proofs.Kernels.{TakesRoot, zeros-root, power_sum-takes_root}
use Rattle.rs_code.proofs.generator.generator.Goals as goal

pub loop-degree-init : goal.loop-degree-init
loop-degree-init g c = record {
  long = length-replicate g.row.ROOTS 0;
  roots = λ j h h'. absurd (omega arith);
  zeros = λ k h. get_or-zeros g.row.ROOTS k;
}

pub loop-degree-preserved : goal.loop-degree-preserved
loop-degree-preserved g c =
    let F = c.field_laws.ensures in
    let step : TakesRoot c.pow_alpha-root.result c.loop-degree.degree c.loop-degree.coefficients c.take_root.new.coefficients =
    record {
      room = let l = c.loop-degree.invariant.long in let t = c.loop-degree-test.true in omega arith;
      long = c.take_root.auto.coefficients;
      written = c.take_root.ensures.written;
      kept = c.take_root.ensures.kept;
      zeros = c.loop-degree.invariant.zeros;
    } in
    record {
      long = c.take_root.auto.coefficients ∙ c.loop-degree.invariant.long;
      roots = λ j h h'.
          power_sum-takes_root F c.degree_laws.ensures c.pow_alpha-root.result c.loop-degree.degree c.loop-degree.coefficients c.take_root.new.coefficients step j
          ∙ elim (cases_lt j (c.args.first + c.loop-degree.degree)) [
            | inl before ↦
                ap (element_product (bit_xor (element_power 2 j) c.pow_alpha-root.result)) (c.loop-degree.invariant.roots j h before)
                ∙ F.product_zero_right (bit_xor (element_power 2 j) c.pow_alpha-root.result)
            | inr now ↦
                let same : c.args.first + c.loop-degree.degree ≡ j = omega arith in
                ap (λ (x : ℕ). element_product (bit_xor (element_power 2 j) x) (power_sum (1 ∷ take c.loop-degree.degree c.loop-degree.coefficients) j))
                (c.pow_alpha-root.ensures.value ∙ ap (element_power 2) same)
                ∙ ap (λ (x : ℕ). element_product x (power_sum (1 ∷ take c.loop-degree.degree c.loop-degree.coefficients) j)) (xor_self (element_power 2 j))
                ∙ F.product_zero (power_sum (1 ∷ take c.loop-degree.degree c.loop-degree.coefficients) j)
          ];
      zeros = zeros-root F c.pow_alpha-root.result c.loop-degree.degree c.loop-degree.coefficients c.take_root.new.coefficients step;
    }

pub returns-clause-roots : goal.returns-clause-roots
returns-clause-roots g c = λ j h h'.
    ap (λ (w : List ℕ). power_sum (1 ∷ w) j)
    (sym (take_all c.loop-degree.degree c.loop-degree.coefficients
    (let l = c.loop-degree.invariant.long in let t = c.loop-degree-test.false in omega arith)))
    ∙ c.loop-degree.invariant.roots j h (let t = c.loop-degree-test.false in omega arith)
