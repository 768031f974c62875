use Rattle.gf256_core.proofs.OneRemainder as OneRemainder
use Rattle.gf256_core.proofs.laws.one_remainder.Goals as goal

pub returns : goal.returns
returns g c =
    let laws = g.met.T.FieldTables.laws in
    OneRemainder.one_remainder _ laws.low laws.high
