use Rattle.std.proofs.Common.{◌<◌, ◌≡◌, get_or, arith}
use Rattle.gf256_core.proofs.FieldLaws.{logarithm-fits}
use Rattle.gf256_core.proofs.element.Gf.logarithm.Goals as goal

pub returns-clause-fits : goal.returns-clause-fits
returns-clause-fits g c =
    let same : c.self.inside.byte ≡ c.args.self = c.self.view_is in
    let byte : c.self.inside.byte < 256 = c.self.invariant in
    let fits : get_or g.T.FieldTables.LOG c.args.self 0 < 255 =
    logarithm-fits g.met.T.FieldTables.laws c.args.self c.requires (omega arith) in
    rw (c.logarithm_at.ensures, same) fits
