use Rattle.std.proofs.Common.{ℕ, ◌∙◌, ap, ◌-◌, ◌%◌, get_or}
use Rattle.gf256_core.specs.Field.{product}
use Rattle.gf256_core.proofs.FieldLaws.{inverse_at_place}
use Rattle.gf256_core.proofs.element.Gf.inv.Goals as goal

pub returns-clause-value : goal.returns-clause-value
returns-clause-value g c =
    ap (product g.T.FieldTables.POLY c.args.self)
    (c.row.ensures.value ∙ ap (λ (x : ℕ). get_or g.T.FieldTables.EXP ((255 - x) % 255) 0) c.logarithm.ensures.value)
    ∙ inverse_at_place g.met.T.FieldTables.laws c.args.self c.requires c.logarithm.ensures.byte
