use Rattle.std.proofs.Common.{◌∙◌, length, arith}
use Rattle.poly256.proofs.Shapes.{written-trimmed_coefficients}
use Rattle.poly256.proofs.polynomial.Poly.of.Goals as goal

pub returns-clause-value : goal.returns-clause-value
returns-clause-value g c =
    c.keep.ensures.value
    ∙ written-trimmed_coefficients g.row.CAP (length c.args.coefficients.now) c.add_list.new.room c.args.coefficients.now c.add_list.ensures (omega arith)
