use Rattle.std.proofs.Common.{◌≡◌, ◌+◌, ◌*◌, ℕ, List, length, get_or, arith, ap, sym, ◌∙◌, subst, rules}
use Rattle.std.specs.Int.Bits.{bit_xor}
use Rattle.poly256.specs.Polynomial.{element_product}
use Rattle.rs_code.specs.Rows.{HasBitRows}
use Rattle.rs_code.proofs.PowerRows.{root_power, root_rows, root_powers_long}
use Rattle.rs_code.proofs.rows.add_to_sums.Goals as goal

pub add_row_times-requires : goal.add_row_times-requires
add_row_times-requires c =
    let inside = c.requires in
    let long : length c.root_powers.result.now ≡ 5120 = ap length c.root_powers.ensures ∙ root_powers_long in
    let rows : HasBitRows 32 c.root_powers.result.now (256 * c.args.power) =
    subst (λ (t : List ℕ). HasBitRows 32 t (256 * c.args.power)) (sym c.root_powers.ensures) (root_rows c.field_laws.ensures c.args.power inside) in
    (search rules, (omega arith, rows))

pub returns : goal.returns
returns c = λ k h.
    c.add_row_times.ensures k h
    ∙ ap (λ (x : ℕ). bit_xor (get_or c.args.sums.now k 0) (element_product c.args.byte x))
    (ap (λ (t : List ℕ). get_or t (256 * c.args.power + k) 0) c.root_powers.ensures
    ∙ root_power c.field_laws.ensures c.args.power k c.requires h)
