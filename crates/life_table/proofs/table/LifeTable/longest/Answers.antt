use Rattle.std.proofs.Common.{◌≡◌, ℕ, Option, IfSome, sym, subst}
use Rattle.life_table.specs.LifeTable.{longest}
use Rattle.life_table.specs.Views.{table_of}
use Rattle.life_table.proofs.Finding.{longest_text, longest_radar}
use Rattle.life_table.proofs.Greatest.{IsShort, longest_short}
use Rattle.life_table.proofs.table.LifeTable.longest.Goals as goal

pub returns-then-product-eq-TEXT_PRODUCT-clause-life : goal.returns-then-product-eq-TEXT_PRODUCT-clause-life
returns-then-product-eq-TEXT_PRODUCT-clause-life c =
    let t = c.self.inside in
    let e = longest_text t.late t.texts.value.items t.radars.value.items c.args.product c.if-product-eq-TEXT_PRODUCT.true in
    cc

pub returns-then-product-eq-TEXT_PRODUCT-clause-bounded : goal.returns-then-product-eq-TEXT_PRODUCT-clause-bounded
returns-then-product-eq-TEXT_PRODUCT-clause-bounded c =
    let t = c.self.inside in
    let e = longest_text t.late t.texts.value.items t.radars.value.items c.args.product c.if-product-eq-TEXT_PRODUCT.true in
    let same : c.greatest_text_life.result ≡ longest (table_of t.late t.texts.value.items t.radars.value.items) c.args.product = cc in
    subst (λ (answer : Option ℕ). IfSome answer IsShort) (sym same) (longest_short (table_of t.late t.texts.value.items t.radars.value.items) c.args.product c.self.invariant)

pub returns-else-product-eq-TEXT_PRODUCT-clause-life : goal.returns-else-product-eq-TEXT_PRODUCT-clause-life
returns-else-product-eq-TEXT_PRODUCT-clause-life c =
    let t = c.self.inside in
    let e = longest_radar t.late t.texts.value.items t.radars.value.items c.args.product c.if-product-eq-TEXT_PRODUCT.false in
    cc

pub returns-else-product-eq-TEXT_PRODUCT-clause-bounded : goal.returns-else-product-eq-TEXT_PRODUCT-clause-bounded
returns-else-product-eq-TEXT_PRODUCT-clause-bounded c =
    let t = c.self.inside in
    let e = longest_radar t.late t.texts.value.items t.radars.value.items c.args.product c.if-product-eq-TEXT_PRODUCT.false in
    let same : c.greatest_radar_life.result ≡ longest (table_of t.late t.texts.value.items t.radars.value.items) c.args.product = cc in
    subst (λ (answer : Option ℕ). IfSome answer IsShort) (sym same) (longest_short (table_of t.late t.texts.value.items t.radars.value.items) c.args.product c.self.invariant)
