use Rattle.std.proofs.Common.{◌∙◌, ◌≡◌, ◌≤◌, ℕ, List, length, replicate, arith, ap, ap₂}
use Rattle.poly256.specs.Polynomial.{sum_of, trimmed_coefficients}
use Rattle.poly256.proofs.ListSums.{sum_assoc, length-sum_at_most}
use Rattle.poly256.proofs.Shapes.{written-trimmed_coefficients}
use Rattle.poly256.proofs.polynomial.Poly.add.Goals as goal

pub returns-clause-value : goal.returns-clause-value
returns-clause-value g c =
    let first : List ℕ = c.coefficients-first.result.now in
    let both : c.add_list-2.new.room
    ≡ sum_of (replicate g.row.CAP 0) (sum_of c.coefficients-first.result.now c.coefficients-second.result.now) =
    c.add_list-2.ensures ∙ ap (λ (xs : List ℕ). sum_of xs c.coefficients-second.result.now) c.add_list.ensures
    ∙ sum_assoc (replicate g.row.CAP 0) c.coefficients-first.result.now c.coefficients-second.result.now in
    let fits : length (sum_of c.coefficients-first.result.now c.coefficients-second.result.now) ≤ c.max.result =
    length-sum_at_most c.coefficients-first.result.now c.coefficients-second.result.now c.max.result
    (omega (arith, c.max.ensures)) (omega (arith, c.max.ensures)) in
    c.keep.ensures.value
    ∙ written-trimmed_coefficients g.row.CAP c.max.result c.add_list-2.new.room
    (sum_of c.coefficients-first.result.now c.coefficients-second.result.now) both fits
    ∙ ap₂ (λ (xs ys : List ℕ). trimmed_coefficients (sum_of xs ys)) c.coefficients-first.ensures.value c.coefficients-second.ensures.value
