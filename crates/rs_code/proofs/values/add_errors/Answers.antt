use Rattle.std.proofs.Common.{◌≡◌, ◌-◌, ◌+◌, ℕ, List, get_or, set, drop, arith, ap, sym, ◌∙◌, refl, length-set, inl, inr}
use Rattle.std.specs.Int.Bits.{bit_xor}
use Rattle.std.proofs.lemmas.Bool.{cases_eq}
use Rattle.std.proofs.lemmas.List.{drop_all}
use Rattle.poly256.specs.Polynomial.{element_product}
use Rattle.rs_code.specs.Mending.{with_errors}
use Rattle.rs_code.proofs.Powers.{power-not_zero}
use Rattle.rs_code.proofs.Solving.{cancelled}
use Rattle.rs_code.proofs.Mending.{with_errors-none, with_errors-next}
use Rattle.rs_code.proofs.values.add_errors.Goals as goal

pub div-requires : goal.div-requires
div-requires g c =
    elim (cases_eq c.pow_alpha-weight.result 0) [
      | inl none ↦ absurd (power-not_zero c.field_laws.ensures _ (sym c.pow_alpha-weight.ensures.value ∙ none))
      | inr some ↦ omega arith
    ]

pub loop-i-preserved : goal.loop-i-preserved
loop-i-preserved g c = record {
  long = length-set _ _ _ ∙ c.loop-i.invariant.long;
  left = λ errors l bytes are.
      let F = c.field_laws.ensures in
      let inside = c.loop-i-test.true in
      let value : c.byte.result ≡ get_or errors c.loop-i.i 0 =
      cancelled F c.byte.result (get_or errors c.loop-i.i 0) c.pow_alpha-weight.result c.byte.type_inv (bytes c.loop-i.i)
      c.pow_alpha-weight.ensures.fits
      (λ none. power-not_zero F _ (sym c.pow_alpha-weight.ensures.value ∙ none))
      (ap (λ (a : ℕ). element_product a c.pow_alpha-weight.result) c.byte.ensures
      ∙ c.div.ensures.value ∙ c.of.ensures.value ∙ sym (are c.loop-i.i (omega arith))
      ∙ ap (element_product (get_or errors c.loop-i.i 0)) (sym c.pow_alpha-weight.ensures.value)) in
      ap (λ (a : ℕ). with_errors (set c.loop-i.word (g.row.N - 1 - get_or c.args.places.now c.loop-i.i 0) (bit_xor (get_or c.loop-i.word (g.row.N - 1 - get_or c.args.places.now c.loop-i.i 0) 0) a)) (drop (c.loop-i.i + 1) c.args.places.now) (drop (c.loop-i.i + 1) errors)) value
      ∙ with_errors-next c.loop-i.word c.args.places.now errors c.loop-i.i (get_or c.args.places.now c.loop-i.i 0)
      (get_or errors c.loop-i.i 0) g.row.N inside (omega arith) refl refl c.loop-i.invariant.long
      ∙ c.loop-i.invariant.left errors l bytes are;
}

pub returns : goal.returns
returns g c = λ errors l bytes are.
    sym (ap (λ (ps : List ℕ). with_errors c.loop-i.word ps (drop c.loop-i.i errors))
    (drop_all c.loop-i.i c.args.places.now (let t = c.loop-i-test.false in omega arith))
    ∙ with_errors-none c.loop-i.word (drop c.loop-i.i errors))
    ∙ c.loop-i.invariant.left errors l bytes are
