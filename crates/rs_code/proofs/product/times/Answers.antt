use Rattle.std.proofs.Common.{◌≡◌, ◌≤◌, ◌+◌, ℕ, get_or, arith, ap₂, ◌∙◌}
use Rattle.poly256.specs.Polynomial.{element_product}
use Rattle.rs_code.specs.declared.product.TheConstants.{POWERS, LOGARITHMS}
use Rattle.rs_code.proofs.ProductTables.{product_row, logarithm-fits}
use Rattle.rs_code.proofs.product.times.Goals as goal

pub power_row-requires : goal.power_row-requires
power_row-requires c =
    let l : get_or LOGARITHMS c.byte.result 0 ≤ 510 = logarithm-fits c.byte.result c.byte.type_inv in
    let m : get_or LOGARITHMS c.byte-2.result 0 ≤ 510 = logarithm-fits c.byte-2.result c.byte-2.type_inv in
    let e : c.logarithm_row-first_power.result ≡ get_or LOGARITHMS c.byte.result 0 = c.logarithm_row-first_power.ensures in
    let e' : c.logarithm_row-second_power.result ≡ get_or LOGARITHMS c.byte-2.result 0 = c.logarithm_row-second_power.ensures in
    omega arith

pub returns-clause-value : goal.returns-clause-value
returns-clause-value c =
    c.of.ensures.value
    ∙ c.power_row.ensures
    ∙ ap₂ (λ (i j : ℕ). get_or POWERS (i + j) 0) c.logarithm_row-first_power.ensures c.logarithm_row-second_power.ensures
    ∙ product_row c.field_laws.ensures c.byte.result c.byte-2.result c.byte.type_inv c.byte-2.type_inv
    ∙ ap₂ element_product c.byte.ensures c.byte-2.ensures
