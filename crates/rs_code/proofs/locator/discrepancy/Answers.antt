use Rattle.std.proofs.Common.{◌≡◌, ◌<◌, ◌+◌, ℕ, List, length, suc, arith, ap, ap₂, sym, ◌∙◌, drop, get_or, drop-cons, add-one}
use Rattle.std.specs.Int.Bits.{bit_xor, xor_zero_r, xor_assoc, xor_zero_l}
use Rattle.std.proofs.lemmas.List.{drop_all}
use Rattle.poly256.specs.Polynomial.{element_product}
use Rattle.rs_code.specs.Mending.{paired_sum}
use Rattle.rs_code.proofs.Pairing.{paired_sum-empty, paired_sum-cons, paired_sum-same}
use Rattle.rs_code.proofs.locator.discrepancy.Goals as goal

pub loop-power-init : goal.loop-power-init
loop-power-init c = record {
  fits = c.of-total.ensures.fits;
  whole = ap (λ (a : ℕ). bit_xor a (paired_sum c.args.coefficients.now (λ k. get_or c.args.sums.now (c.args.from + (0 + k)) 0))) c.of-total.ensures.value
      ∙ xor_zero_l (paired_sum c.args.coefficients.now (λ k. get_or c.args.sums.now (c.args.from + (0 + k)) 0))
      ∙ paired_sum-same c.args.coefficients.now (λ k. get_or c.args.sums.now (c.args.from + (0 + k)) 0) (λ k. get_or c.args.sums.now (c.args.from + k) 0)
      (λ k. ap (λ (i : ℕ). get_or c.args.sums.now i 0) (let m : c.args.from + (0 + k) ≡ c.args.from + k = omega arith in m));
}

-- one more term
one_more :
    (cs sums : List ℕ) (from power total next : ℕ) → power < length cs
    → next ≡ bit_xor total (element_product (get_or cs power 0) (get_or sums (from + power) 0))
    → bit_xor next (paired_sum (drop (power + 1) cs) (λ k. get_or sums (from + (power + 1 + k)) 0))
    ≡ bit_xor total (paired_sum (drop power cs) (λ k. get_or sums (from + (power + k)) 0))
one_more cs sums from power total next h e =
    ap₂ bit_xor e
    (ap (λ (n : ℕ). paired_sum (drop n cs) (λ k. get_or sums (from + (power + 1 + k)) 0)) (add-one power)
    ∙ paired_sum-same (drop (suc power) cs) (λ k. get_or sums (from + (power + 1 + k)) 0) (λ k. get_or sums (from + (power + suc k)) 0)
    (λ k. ap (λ (i : ℕ). get_or sums i 0) (let m : from + (power + 1 + k) ≡ from + (power + suc k) = omega arith in m)))
    ∙ xor_assoc total (element_product (get_or cs power 0) (get_or sums (from + power) 0)) (paired_sum (drop (suc power) cs) (λ k. get_or sums (from + (power + suc k)) 0))
    ∙ ap (bit_xor total)
    (ap (λ (i : ℕ). bit_xor (element_product (get_or cs power 0) (get_or sums i 0)) (paired_sum (drop (suc power) cs) (λ k. get_or sums (from + (power + suc k)) 0)))
    (let m : from + power ≡ from + (power + 0) = omega arith in m)
    ∙ sym (paired_sum-cons (get_or cs power 0) (drop (suc power) cs) (λ k. get_or sums (from + (power + k)) 0))
    ∙ ap (λ (xs : List ℕ). paired_sum xs (λ k. get_or sums (from + (power + k)) 0)) (sym (drop-cons cs power 0 h)))

pub loop-power-preserved : goal.loop-power-preserved
loop-power-preserved c = record {
  fits = c.add-total.ensures.fits;
  whole =
      one_more c.args.coefficients.now c.args.sums.now c.args.from c.loop-power.power c.loop-power.total c.add-total.result (omega arith)
      (c.add-total.ensures.value ∙ ap (bit_xor c.loop-power.total) (c.times.ensures.value ∙ ap₂ element_product c.of.ensures.value c.of-in-loop-power.ensures.value))
      ∙ c.loop-power.invariant.whole;
}

pub returns-clause-value : goal.returns-clause-value
returns-clause-value c =
    sym (ap (bit_xor c.loop-power.total)
    (ap (λ (xs : List ℕ). paired_sum xs (λ k. get_or c.args.sums.now (c.args.from + (c.loop-power.power + k)) 0))
    (drop_all c.loop-power.power c.args.coefficients.now (omega arith))
    ∙ paired_sum-empty (λ k. get_or c.args.sums.now (c.args.from + (c.loop-power.power + k)) 0))
    ∙ xor_zero_r c.loop-power.total)
    ∙ c.loop-power.invariant.whole
