use Rattle.std.proofs.Common.{ℕ, ◌∙◌, sym, ap, get_or}
use Rattle.std.proofs.Math.Nat.{mod-mod}
use Rattle.gf256_core.proofs.FieldLaws.{power_from_tables}
use Rattle.gf256_core.proofs.element.Gf.pow_alpha.Goals as goal

pub returns-clause-value : goal.returns-clause-value
returns-clause-value g c =
    c.row.ensures.value ∙ ap (λ (x : ℕ). get_or g.T.FieldTables.EXP x 0) (mod-mod c.args.n 255)
    ∙ sym (power_from_tables g.met.T.FieldTables.laws c.args.n)
