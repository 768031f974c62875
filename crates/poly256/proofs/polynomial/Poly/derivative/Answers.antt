use Rattle.std.proofs.Common.{◌∙◌, ℕ, List, length, arith, ap}
use Rattle.poly256.specs.Polynomial.{derivative_of, trimmed_coefficients}
use Rattle.poly256.proofs.Shapes.{front-trimmed_coefficients}
use Rattle.poly256.proofs.Derivatives.{derivative-past}
use Rattle.poly256.proofs.polynomial.Poly.derivative.Goals as goal

pub returns-clause-value : goal.returns-clause-value
returns-clause-value g c = let e = c.write_derivative.ensures in let e' = c.keep.ensures.value in
    c.keep.ensures.value
    ∙ front-trimmed_coefficients c.write_derivative.new.room (derivative_of c.coefficients-coefficients.result.now)
    (length c.coefficients-coefficients.result.now) c.write_derivative.ensures
    (λ k h. derivative-past c.coefficients-coefficients.result.now k (omega arith))
    ∙ ap (λ (xs : List ℕ). trimmed_coefficients (derivative_of xs)) c.coefficients-coefficients.ensures.value
