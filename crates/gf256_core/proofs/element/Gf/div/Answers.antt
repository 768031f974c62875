use Rattle.std.proofs.Common.{ℕ, ◌≡◌, arith, sym, ◌∙◌, ap, ap₂, ◌+◌, ◌-◌, ◌%◌, get_or}
use Rattle.gf256_core.specs.Field.{product}
use Rattle.gf256_core.proofs.Products.{product-zero_left}
use Rattle.gf256_core.proofs.FieldLaws.{quotient_at_place}
use Rattle.gf256_core.proofs.element.Gf.div.Goals as goal

pub returns-then-self-eq0-clause-value : goal.returns-then-self-eq0-clause-value
returns-then-self-eq0-clause-value g c =
    let zero : c.args.self ≡ 0 = sym c.self.view_is ∙ c.if-self-eq0.true in
    rw zero (product-zero_left g.T.FieldTables.POLY c.args.other)

pub returns-clause-value : goal.returns-clause-value
returns-clause-value g c =
    ap (λ (x : ℕ). product g.T.FieldTables.POLY x c.args.other)
    (c.row.ensures.value
    ∙ ap₂ (λ (x y : ℕ). get_or g.T.FieldTables.EXP ((x + 255 - y) % 255) 0) c.logarithm.ensures.value c.logarithm-2.ensures.value)
    ∙ quotient_at_place g.met.T.FieldTables.laws c.args.self c.args.other
    (let same : c.self.inside.byte ≡ c.args.self = c.self.view_is in omega (arith, c.if-self-eq0.false)) c.logarithm.ensures.byte
    c.requires c.logarithm-2.ensures.byte
