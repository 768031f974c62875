use Rattle.std.proofs.Common.{◌≡◌, ◌<◌, ◌+◌, ◌-◌, ℕ, List, length, take, arith, get_or, replicate, ap, sym, ◌∙◌, subst}
use Rattle.std.proofs.lemmas.List.{length-replicate}
use Rattle.list_members.specs.Places.{get_or-zeros}
use Rattle.poly256.specs.Polynomial.{sum_of, raised_coefficients, scaled_coefficients}
use Rattle.rs_code.specs.Mending.{IsLocator}
use Rattle.rs_code.proofs.Pairing.{paired_sum-fits}
use Rattle.rs_code.proofs.Locators.{IsLocator-begin, IsLocator-step, IsEarlier-next}
use Rattle.rs_code.proofs.locator.lengthen.Goals as goal

pub loop-place-init : goal.loop-place-init
loop-place-init g c =
    let F = c.field_laws.ensures in
    let off : c.args.off < 256 =
    subst (λ (x : ℕ). x < 256) c.requires.off (paired_sum-fits F c.args.locator.now (λ k. get_or c.args.sums.now (c.args.at + k) 0)) in
    let room : c.args.degree < length c.args.locator.now =
    let l = c.told-locator in let r = c.requires.room in let h = c.requires.degree in omega arith in
    record {
      long = c.add_product-2.auto.room ∙ c.add_product.auto.room ∙ length-replicate g.row.N 0;
      locator =
          subst (λ (w : List ℕ). IsLocator w c.args.sums.now (c.args.at + 1) c.args.degree)
          (sym (c.add_product-2.ensures
          ∙ ap (λ (w : List ℕ). sum_of w (raised_coefficients 0 (scaled_coefficients c.div.result (take c.args.degree c.args.earlier.now))))
          (c.add_product.ensures
          ∙ ap (λ (a : ℕ). sum_of (replicate g.row.N 0) (raised_coefficients (c.args.at + 1 - c.args.degree) (scaled_coefficients a (take (c.args.degree + 1) c.args.locator.now))))
          c.of.ensures.value)))
          (IsLocator-begin F c.degree_laws.ensures (replicate g.row.N 0) c.args.locator.now c.args.earlier.now c.args.sums.now c.args.degree c.args.at c.args.last
          c.args.off c.div.result (get_or-zeros g.row.N) room c.requires.locator c.requires.earlier c.requires.degree off c.requires.off
          c.div.ensures.value);
    }

pub loop-place-preserved : goal.loop-place-preserved
loop-place-preserved g c = record {
  long = c.add_product-in-loop-place.auto.room ∙ c.loop-place.invariant.long;
  locator =
      subst (λ (w : List ℕ). IsLocator w c.args.sums.now (c.args.at + 1) (c.loop-place.place + 1))
      (sym c.add_product-in-loop-place.ensures)
      (IsLocator-step c.field_laws.ensures c.degree_laws.ensures c.loop-place.next c.args.locator.now c.args.sums.now c.args.degree c.args.at
      c.loop-place.place c.args.off c.discrepancy-rest.result c.div-in-loop-place.result c.loop-place.invariant.locator
      c.requires.locator c.loop-place.auto.place (omega arith) c.requires.off c.discrepancy-rest.ensures.value
      c.div-in-loop-place.ensures.value);
}

pub returns : goal.returns
returns g c = record {
  locator =
      subst (IsLocator c.loop-place.next c.args.sums.now (c.args.at + 1))
      (let low = c.loop-place-test.false in let high = c.loop-place.auto.place-end in let h = c.requires.degree in
      let e : c.loop-place.place ≡ c.args.at + 1 = omega arith in e)
      c.loop-place.invariant.locator;
  earlier = IsEarlier-next c.args.locator.now c.args.sums.now c.args.degree c.args.at c.args.off c.requires.locator c.requires.degree c.requires.off;
  long = c.loop-place.invariant.long;
}
