use Rattle.std.proofs.Common.{◌≡◌, ◌<◌, ◌+◌, ◌/◌, length, arith, get_or, sym, ◌∙◌, subst, length-set, rules}
use Rattle.list_members.specs.Places.{get_or-zeros}
use Rattle.rs_code.specs.Mending.{paired_sum, IsLocator, IsEarlier}
use Rattle.rs_code.proofs.Pairing.{paired_sum-front}
use Rattle.rs_code.proofs.Locators.{IsLocator-one, IsEarlier-none, IsLocator-same}
use Rattle.rs_code.proofs.locator.find_locator.Goals.{then-byte-ne0, else-byte-ne0}
use Rattle.rs_code.proofs.locator.find_locator.Goals as goal

pub loop-at-init : goal.loop-at-init
loop-at-init g c = record {
  locator = IsLocator-one c.args.locator.now c.args.sums.now c.requires.zeros
      (let l = c.told-locator in let r = c.requires.room in omega arith);
  earlier = subst (IsEarlier _ c.args.sums.now 0) (sym c.of-last.ensures.value) (IsEarlier-none _ c.args.sums.now (get_or-zeros g.row.N));
  some = let e = c.of-last.ensures.value in omega arith;
  long = length-set _ _ _ ∙ c.told-locator;
  degree = omega arith;
}

pub lengthen-requires : goal.lengthen-requires
lengthen-requires g c =
    let inside = c.loop-at-test.true in
    let room = c.requires.room in
    let off = sym (paired_sum-front c.field_laws.ensures (c.loop-at.degree + 1) c.loop-at.locator (λ k. get_or c.args.sums.now (c.loop-at.at + k) 0)
    (λ k h. c.loop-at.invariant.locator.past k (omega arith)))
    ∙ sym c.discrepancy-off.ensures.value in
    let some : 0 < c.discrepancy-off.result = let n = c.if-byte-ne0.true in let e = c.byte.ensures in omega arith in (
      search rules,
      (
        c.loop-at.invariant.locator,
        (
          c.loop-at.invariant.earlier,
          (
            off,
            (
              c.loop-at.invariant.some,
              (
                some,
                (c.loop-at.invariant.degree, ((omega arith), (omega arith))),
              ),
            ),
          ),
        ),
      ),
    )

pub loop-at-preserved : goal.loop-at-preserved
loop-at-preserved g c =
    elim c.if-byte-ne0.branch [
      | then-byte-ne0 w ↦
          let some : 0 < c.discrepancy-off.result = let n = w.if-byte-ne0.true in let e = c.byte.ensures in omega arith in
          rw (w.locator-is, w.earlier-is, w.last-is, w.degree-is)
          (record {
            locator = w.lengthen.ensures.locator;
            earlier = w.lengthen.ensures.earlier;
            some = some;
            long = w.lengthen.ensures.long;
            degree = omega arith;
          })
      | else-byte-ne0 w ↦
          let none : paired_sum c.loop-at.locator (λ k. get_or c.args.sums.now (c.loop-at.at + k) 0) ≡ 0 =
          sym (paired_sum-front c.field_laws.ensures (c.loop-at.degree + 1) c.loop-at.locator (λ k. get_or c.args.sums.now (c.loop-at.at + k) 0)
          (λ k h. c.loop-at.invariant.locator.past k (omega arith)))
          ∙ sym c.discrepancy-off.ensures.value ∙ sym c.byte.ensures ∙ w.if-byte-ne0.false in
          rw (w.locator-is, w.earlier-is, w.last-is, w.degree-is)
          (record {
            locator = IsLocator-same c.loop-at.locator c.args.sums.now c.loop-at.degree c.loop-at.at c.loop-at.invariant.locator none;
            earlier = c.loop-at.invariant.earlier;
            some = c.loop-at.invariant.some;
            long = c.loop-at.invariant.long;
            degree = let h = c.loop-at.invariant.degree in omega arith;
          })
    ]

pub returns : goal.returns
returns g c =
    let l = c.loop-at.auto.at-end in
    let t = c.loop-at-test.false in
    let e : c.loop-at.at ≡ length c.args.sums.now / 2 = omega arith in
    record {
      locator = subst (IsLocator c.loop-at.locator c.args.sums.now c.loop-at.degree) e c.loop-at.invariant.locator;
      degree = let h = c.loop-at.invariant.degree in omega arith;
      long = c.loop-at.invariant.long;
      bytes = c.byte_law.ensures;
    }
