use Rattle.std.proofs.Common.{◌<◌, ◌≡◌, ◌≤◌, ◌-◌, ◌∷◌, length, List, ℕ, suc, arith, ap, ap₂, sym, ◌∙◌, drop, get_or, drop-cons}
use Rattle.std.specs.Int.Bits.{bit_xor}
use Rattle.std.proofs.lemmas.List.{drop_all}
use Rattle.poly256.specs.Polynomial.{element_product, value_at}
use Rattle.rs_code.proofs.wrong_places.value_of.Goals as goal

pub loop-power-init : goal.loop-power-init
loop-power-init c = record {
  within = omega arith;
  fits = c.of-value.ensures.fits;
  here = c.of-value.ensures.value
      ∙ sym (ap (λ (xs : List ℕ). value_at xs c.args.point) (drop_all (length c.args.polynomial.now) c.args.polynomial.now (omega arith))
      ∙ c.value_laws.ensures.of_zero c.args.point);
}

pub loop-power-preserved : goal.loop-power-preserved
loop-power-preserved c =
    let within : c.loop-power.power ≤ length c.args.polynomial.now = c.loop-power.invariant.within in
    let inside : c.loop-power.power - 1 < length c.args.polynomial.now = let some = c.loop-power-test.true in omega arith in
    let next : suc (c.loop-power.power - 1) ≡ c.loop-power.power = let some = c.loop-power-test.true in omega arith in
    let list : drop (c.loop-power.power - 1) c.args.polynomial.now
    ≡ get_or c.args.polynomial.now (c.loop-power.power - 1) 0 ∷ drop c.loop-power.power c.args.polynomial.now =
    drop-cons c.args.polynomial.now (c.loop-power.power - 1) 0 inside
    ∙ ap (λ (n : ℕ). get_or c.args.polynomial.now (c.loop-power.power - 1) 0 ∷ drop n c.args.polynomial.now) next in
    let byte : get_or c.args.polynomial.now (c.loop-power.power - 1) 0 < 256 =
    let same = c.of.ensures.value in let fits = c.of.ensures.fits in omega arith in
    record {
      within = omega arith;
      fits = c.add-value.ensures.fits;
      here = c.add-value.ensures.value
          ∙ ap₂ bit_xor c.of.ensures.value (c.times.ensures.value ∙ ap (element_product c.args.point) c.loop-power.invariant.here)
          ∙ sym (ap (λ (xs : List ℕ). value_at xs c.args.point) list
          ∙ c.value_laws.ensures.of_first (get_or c.args.polynomial.now (c.loop-power.power - 1) 0) (drop c.loop-power.power c.args.polynomial.now) c.args.point byte);
    }
