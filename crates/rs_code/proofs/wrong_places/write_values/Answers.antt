use Rattle.std.proofs.Common.{ℕ, arith, ap, ◌∙◌, length-set}
use Rattle.poly256.specs.Polynomial.{element_power, value_at}
use Rattle.list_members.specs.Places.{set_next}
use Rattle.rs_code.proofs.wrong_places.write_values.Goals as goal

pub loop-place-preserved : goal.loop-place-preserved
loop-place-preserved g c = record {
  long = length-set _ _ _ ∙ c.loop-place.invariant.long;
  written = set_next (λ (k : ℕ). value_at c.args.polynomial.now (element_power 2 k)) c.loop-place.values c.loop-place.place _
      (let l = c.loop-place.invariant.long in omega arith)
      (c.byte.ensures ∙ c.value_of.ensures.value ∙ ap (value_at c.args.polynomial.now) c.pow_alpha.ensures.value)
      c.loop-place.invariant.written;
}
