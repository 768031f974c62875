use Rattle.std.proofs.Common.{◌∙◌, ◌≡◌, ◌≤◌, ◌+◌, ℕ, List, length, arith, ap, ap₂, min}
use Rattle.poly256.specs.Polynomial.{list_product, trimmed_coefficients}
use Rattle.poly256.proofs.Shapes.{written-trimmed_coefficients, length-product_fits}
use Rattle.poly256.proofs.polynomial.Poly.mul.Goals as goal

pub returns-clause-value : goal.returns-clause-value
returns-clause-value g c =
    let first : length c.coefficients-first.result.now ≡ length c.args.self.now = ap length c.coefficients-first.ensures.value in
    let second : length c.coefficients-second.result.now ≡ length c.args.other.now = ap length c.coefficients-second.ensures.value in
    let product : length (list_product c.coefficients-first.result.now c.coefficients-second.result.now)
    ≤ min (length c.coefficients-first.result.now + length c.coefficients-second.result.now) g.row.CAP =
    length-product_fits c.coefficients-first.result.now c.coefficients-second.result.now g.row.CAP
    (λ h h'. let room : length c.args.self.now + length c.args.other.now ≤ g.row.CAP + 1 = c.requires (omega arith) (omega arith) in
    omega arith) in
    c.keep.ensures.value
    ∙ written-trimmed_coefficients g.row.CAP c.min.result c.add_product.new.room
    (list_product c.coefficients-first.result.now c.coefficients-second.result.now) c.add_product.ensures (omega (arith, c.min.ensures))
    ∙ ap₂ (λ (xs ys : List ℕ). trimmed_coefficients (list_product xs ys)) c.coefficients-first.ensures.value c.coefficients-second.ensures.value
