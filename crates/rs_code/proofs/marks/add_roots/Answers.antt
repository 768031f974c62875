use Rattle.std.proofs.Common.{◌≡◌, ◌+◌, ◌-◌, ℕ, length, get_or, arith, ap, sym, ◌∙◌, subst, inl, inr}
use Rattle.std.specs.Int.Bits.{bit_xor}
use Rattle.std.proofs.lemmas.Bool.{cases_eq}
use Rattle.poly256.specs.Polynomial.{element_product, element_power, value_at}
use Rattle.rs_code.specs.Mending.{HasLead}
use Rattle.rs_code.proofs.Marked.{value-root, value-root_kept, value-root_here, lead-root}
use Rattle.rs_code.proofs.marks.add_roots.Goals as goal

pub loop-mark-preserved : goal.loop-mark-preserved
loop-mark-preserved g c =
    let inside = c.loop-mark-test.true in
    let room = c.requires.room in
    let long : length c.loop-mark.polynomial ≡ g.row.N = c.loop-mark.invariant.long in
    let long' : length c.add_root.new.polynomial ≡ length c.loop-mark.polynomial = c.add_root.auto.polynomial in
    let last : get_or c.loop-mark.polynomial (length c.loop-mark.polynomial - 1) 0 ≡ 0 =
    c.loop-mark.invariant.lead.past (length c.loop-mark.polynomial - 1) (omega arith) in
    let value : (x : ℕ) → value_at c.add_root.new.polynomial x ≡ element_product (bit_xor x c.point_of.result) (value_at c.loop-mark.polynomial x) =
    λ x. value-root c.field_laws.ensures c.degree_laws.ensures c.value_laws.ensures c.end_zero_laws.ensures c.loop-mark.polynomial c.add_root.new.polynomial
    c.point_of.result x long' last c.add_root.ensures in
    record {
      long = long' ∙ long;
      lead = subst (HasLead c.add_root.new.polynomial)
          (let m : c.args.degree + c.loop-mark.mark-index + 1 ≡ c.args.degree + (c.loop-mark.mark-index + 1) = omega arith in m)
          (lead-root c.field_laws.ensures c.loop-mark.polynomial c.add_root.new.polynomial c.point_of.result
          (c.args.degree + c.loop-mark.mark-index) long' (omega arith) c.loop-mark.invariant.lead c.add_root.ensures);
      kept = λ x none. value-root_kept c.field_laws.ensures x c.point_of.result _ _ (value x) (c.loop-mark.invariant.kept x none);
      roots = λ i h.
          elim (cases_eq i c.loop-mark.mark-index) [
            | inl same ↦
                ap (λ (k : ℕ). value_at c.add_root.new.polynomial (element_power 2 (g.row.N - 1 - get_or c.args.marks.now k 0))) same
                ∙ ap (value_at c.add_root.new.polynomial) (sym c.point_of.ensures)
                ∙ value-root_here c.field_laws.ensures c.point_of.result _ _ (value c.point_of.result)
            | inr apart ↦
                value-root_kept c.field_laws.ensures (element_power 2 (g.row.N - 1 - get_or c.args.marks.now i 0)) c.point_of.result _ _
                (value (element_power 2 (g.row.N - 1 - get_or c.args.marks.now i 0)))
                (c.loop-mark.invariant.roots i (omega arith))
          ];
    }
