use Rattle.std.proofs.Common.{arith}
use Rattle.poly256.proofs.Shapes.{empty-IsPolynomial}
use Rattle.poly256.proofs.polynomial.Poly.zero.Goals as goal

pub invariant_of-result : goal.invariant_of-result
invariant_of-result g c = (omega arith, empty-IsPolynomial g.row.CAP c.requires.low c.requires.high)

pub returns-clause-shape : goal.returns-clause-shape
returns-clause-shape g c = empty-IsPolynomial g.row.CAP c.requires.low c.requires.high
