use Rattle.std.proofs.Common.{◌∙◌, ◌-◌, ℕ, List, length, take, get_or, ap, sym}
use Rattle.std.proofs.lemmas.List.{get_or_past}
use Rattle.poly256.specs.Polynomial.{trimmed_coefficients}
use Rattle.poly256.proofs.Degrees.{last_not_zero}
use Rattle.poly256.proofs.Divisions.{kept-IsDivision, same-IsDivision}
use Rattle.poly256.proofs.Shapes.{coefficient-zeros_sum}
use Rattle.poly256.proofs.polynomial.Poly.div_rem.Goals as goal

pub divide-requires-clause-lead : goal.divide-requires-clause-lead
divide-requires-clause-lead g c =
    last_not_zero c.coefficients-steps.result.now
    (ap trimmed_coefficients c.coefficients-steps.ensures.value ∙ c.coefficients-steps.ensures.shape.no_end_zeros
    ∙ sym c.coefficients-steps.ensures.value)
    (rw c.coefficients-steps.ensures.value c.requires)

pub divide-requires-clause-past : goal.divide-requires-clause-past
divide-requires-clause-past g c = λ k h.
    ap (λ (xs : List ℕ). get_or xs k 0) c.add_list.ensures ∙ coefficient-zeros_sum g.row.CAP c.coefficients-coefficients.result.now k
    ∙ get_or_past c.coefficients-coefficients.result.now k 0 h

pub returns-clause-value : goal.returns-clause-value
returns-clause-value g c =
    same-IsDivision c.coefficients-coefficients.result.now c.args.self.now c.coefficients-steps.result.now c.args.divisor.now
    (trimmed_coefficients (take (length c.coefficients-coefficients.result.now) c.divide.new.quotient)) c.keep.result
    (trimmed_coefficients (take (length c.coefficients-steps.result.now - 1) c.divide.new.rest)) c.keep-2.result
    c.coefficients-coefficients.ensures.value c.coefficients-steps.ensures.value (sym c.keep.ensures.value) (sym c.keep-2.ensures.value)
    (kept-IsDivision c.field_laws.ensures c.coefficients-coefficients.result.now c.coefficients-steps.result.now c.divide.new.quotient
    c.divide.new.rest (length c.coefficients-coefficients.result.now)
    (rw c.coefficients-steps.ensures.value c.requires)
    (λ k. c.divide.ensures.whole k ∙ ap (λ (xs : List ℕ). get_or xs k 0) c.add_list.ensures
    ∙ coefficient-zeros_sum g.row.CAP c.coefficients-coefficients.result.now k)
    c.divide.ensures.lower c.divide.ensures.short)
