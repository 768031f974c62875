use Rattle.std.proofs.Common.{◌≡◌, ◌+◌, ◌*◌, ℕ, List, length, get_or, arith, ap, sym, ◌∙◌, subst, rules}
use Rattle.std.specs.Int.Bits.{bit_xor}
use Rattle.poly256.specs.Polynomial.{element_product}
use Rattle.rs_code.specs.Rows.{HasBitRows}
use Rattle.rs_code.proofs.PowerRows.{place_power, place_rows, place_powers_long}
use Rattle.rs_code.proofs.rows.add_to_values.Goals as goal

pub add_row_times-requires : goal.add_row_times-requires
add_row_times-requires c =
    let inside = c.requires in
    let long : length c.place_powers.result.now ≡ 8448 = ap length c.place_powers.ensures ∙ place_powers_long in
    let rows : HasBitRows 96 c.place_powers.result.now (768 * c.args.power) =
    subst (λ (t : List ℕ). HasBitRows 96 t (768 * c.args.power)) (sym c.place_powers.ensures) (place_rows c.field_laws.ensures c.args.power inside) in
    (search rules, (omega arith, rows))

pub returns : goal.returns
returns c = λ k h.
    c.add_row_times.ensures k h
    ∙ ap (λ (x : ℕ). bit_xor (get_or c.args.values.now k 0) (element_product c.args.coefficient x))
    (ap (λ (t : List ℕ). get_or t (768 * c.args.power + k) 0) c.place_powers.ensures
    ∙ place_power c.field_laws.ensures c.args.power k c.requires h)
