use Rattle.std.proofs.Common.{◌<◌, ◌≡◌, ◌≤◌, length, List, ℕ, suc, arith, ap, ap₂, sym, ◌∙◌, ◌-◌, drop, get_or, drop-cons, refl, ◌∷◌}
use Rattle.std.specs.Int.Bits.{bit_xor}
use Rattle.poly256.specs.Polynomial.{element_product, value_at}
use Rattle.poly256.proofs.Values.{value-empty, value-cons}
use Rattle.poly256.proofs.Rooms.{drop-all}
use Rattle.poly256.proofs.room.value_of.Goals as goal

pub loop-power-init : goal.loop-power-init
loop-power-init c = (
  omega arith,
  c.of-value.ensures.fits,
  c.of-value.ensures.value
      ∙ sym (ap (λ (xs : List ℕ). value_at xs c.args.at) (drop-all (length c.args.list.now) c.args.list.now refl) ∙ value-empty c.args.at),
)

pub loop-power-preserved : goal.loop-power-preserved
loop-power-preserved c =
    let F = c.field_laws.ensures in
    let fits : c.loop-power.power ≤ length c.args.list.now = c.loop-power.invariant.0 in
    let inside : c.loop-power.power - 1 < length c.args.list.now = let some = c.loop-power-test.true in omega arith in
    let next : suc (c.loop-power.power - 1) ≡ c.loop-power.power = let some = c.loop-power-test.true in omega arith in
    let list : drop (c.loop-power.power - 1) c.args.list.now
    ≡ get_or c.args.list.now (c.loop-power.power - 1) 0 ∷ drop c.loop-power.power c.args.list.now =
    drop-cons c.args.list.now (c.loop-power.power - 1) 0 inside
    ∙ ap (λ (n : ℕ). get_or c.args.list.now (c.loop-power.power - 1) 0 ∷ drop n c.args.list.now) next in
    let value : c.mul.result ≡ element_product c.args.at (value_at (drop c.loop-power.power c.args.list.now) c.args.at) =
    c.mul.ensures.value ∙ ap (element_product c.args.at) c.loop-power.invariant.2 in
    let byte : get_or c.args.list.now (c.loop-power.power - 1) 0 < 256 =
    let same = c.of.ensures.value in let fits_byte = c.of.ensures.fits in omega arith in (
      omega arith,
      c.add-value.ensures.fits,
      c.add-value.ensures.value ∙ ap₂ bit_xor c.of.ensures.value value
          ∙ sym (ap (λ (xs : List ℕ). value_at xs c.args.at) list
          ∙ value-cons F (get_or c.args.list.now (c.loop-power.power - 1) 0) (drop c.loop-power.power c.args.list.now) c.args.at byte),
    )
