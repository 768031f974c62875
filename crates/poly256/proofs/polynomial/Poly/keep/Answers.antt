use Rattle.poly256.proofs.Shapes.{kept-shape}
use Rattle.poly256.proofs.polynomial.Poly.keep.Goals as goal

pub invariant_of-result : goal.invariant_of-result
invariant_of-result g c =
    kept-shape g.row.CAP c.args.bound c.trimmed_len-len.result c.args.bytes c.requires.low c.requires.high c.requires.room
    c.trimmed_len-len.ensures.value c.trimmed_len-len.ensures.within c.trimmed_len-len.ensures.bytes

pub returns-clause-shape : goal.returns-clause-shape
returns-clause-shape g c =
    (kept-shape g.row.CAP c.args.bound c.trimmed_len-len.result c.args.bytes c.requires.low c.requires.high c.requires.room
    c.trimmed_len-len.ensures.value c.trimmed_len-len.ensures.within c.trimmed_len-len.ensures.bytes).1
