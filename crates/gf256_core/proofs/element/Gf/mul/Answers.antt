use Rattle.std.proofs.Common.{ℕ, ◌≡◌, arith, sym, ◌∙◌, ap₂, ◌+◌, ◌%◌, get_or}
use Rattle.gf256_core.proofs.Products.{product-zero_left, product-zero_right}
use Rattle.gf256_core.proofs.FieldLaws.{product_from_tables}
use Rattle.gf256_core.proofs.element.Gf.mul.Goals as goal

pub returns-then-self-eq0-clause-value : goal.returns-then-self-eq0-clause-value
returns-then-self-eq0-clause-value g c =
    let zero : c.args.self ≡ 0 = sym c.self.view_is ∙ c.if-self-eq0.true in
    rw zero (sym (product-zero_left g.T.FieldTables.POLY c.args.other))

pub returns-then-other-eq0-clause-value : goal.returns-then-other-eq0-clause-value
returns-then-other-eq0-clause-value g c =
    let zero : c.args.other ≡ 0 = sym c.other.view_is ∙ c.if-other-eq0.true in
    rw zero (sym (product-zero_right g.T.FieldTables.POLY c.args.self))

pub returns-clause-value : goal.returns-clause-value
returns-clause-value g c =
    c.row.ensures.value
    ∙ ap₂ (λ (x y : ℕ). get_or g.T.FieldTables.EXP ((x + y) % 255) 0) c.logarithm.ensures.value c.logarithm-2.ensures.value
    ∙ product_from_tables g.met.T.FieldTables.laws c.args.self c.args.other
    (let same : c.self.inside.byte ≡ c.args.self = c.self.view_is in omega (arith, c.if-self-eq0.false)) c.logarithm.ensures.byte
    (let same : c.other.inside.byte ≡ c.args.other = c.other.view_is in omega (arith, c.if-other-eq0.false)) c.logarithm-2.ensures.byte
