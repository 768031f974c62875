use Rattle.std.proofs.Common.{◌≡◌, ◌*◌, ◌+◌, ◌/◌, ◌%◌, ◌≤◌, ℕ, length, get_or, arith, ap, ap₂, sym, ◌∙◌, length-set, inl, inr}
use Rattle.std.specs.Int.Bits.{bit_xor, xor_zero_r}
use Rattle.std.proofs.lemmas.Bool.{cases_lt}
use Rattle.std.proofs.lemmas.List.{ext_get_or, get_or_past}
use Rattle.poly256.specs.Polynomial.{element_product, sum_of, scaled_coefficients}
use Rattle.rs_code.specs.UplinkRows.{uplink_generator}
use Rattle.list_members.specs.Places.{set_next}
use Rattle.rs_code.proofs.Places.{set_keeps}
use Rattle.rs_code.proofs.UplinkTable.{uplink_multiple, length-uplink_generator}
use Rattle.rs_code.proofs.uplink_rows.add_row.Goals as goal

pub loop-i-preserved : goal.loop-i-preserved
loop-i-preserved c =
    let inside = c.loop-i-test.true in
    let row : c.row_byte.result ≡ element_product c.args.byte (get_or uplink_generator c.loop-i.i 0) =
    c.row_byte.ensures
    ∙ uplink_multiple (20 * c.args.byte + c.loop-i.i) (omega arith)
    ∙ ap₂ (λ (a k : ℕ). element_product a (get_or uplink_generator k 0))
    (let e : (20 * c.args.byte + c.loop-i.i) / 20 ≡ c.args.byte = omega arith in e)
    (let e : (20 * c.args.byte + c.loop-i.i) % 20 ≡ c.loop-i.i = omega arith in e) in
    record {
      long = length-set _ _ _ ∙ c.loop-i.invariant.long;
      written = set_next (λ (k : ℕ). bit_xor (get_or c.args.list.now k 0) (element_product c.args.byte (get_or uplink_generator k 0)))
          c.loop-i.list c.loop-i.i _ (let l = c.loop-i.invariant.long in let r = c.requires in omega arith)
          (ap₂ bit_xor (c.loop-i.invariant.left c.loop-i.i (omega arith)) row)
          c.loop-i.invariant.written;
      left = λ k h. set_keeps c.loop-i.list c.loop-i.i k _ (omega arith) ∙ c.loop-i.invariant.left k (omega arith);
    }

pub returns : goal.returns
returns c =
    let r = c.requires in
    let t = c.loop-i-test.false in
    let g = length-uplink_generator in
    let s = c.degree_laws.ensures.scaled_length c.args.byte uplink_generator in
    let l : length (sum_of c.args.list.now (scaled_coefficients c.args.byte uplink_generator)) ≡ length c.args.list.now =
    c.degree_laws.ensures.sum_length c.args.list.now (scaled_coefficients c.args.byte uplink_generator) (omega arith) in
    ext_get_or 0 c.loop-i.list (sum_of c.args.list.now (scaled_coefficients c.args.byte uplink_generator)) (c.loop-i.invariant.long ∙ sym l)
    (λ k h.
    elim (cases_lt k 20) [
      | inl inside ↦ c.loop-i.invariant.written k (omega arith)
      | inr past ↦
          let end : c.loop-i.i ≤ 20 = c.loop-i.auto.i-end in
          c.loop-i.invariant.left k (omega arith)
          ∙ sym (ap (bit_xor (get_or c.args.list.now k 0))
          (ap (element_product c.args.byte) (get_or_past uplink_generator k 0 (omega arith))
          ∙ c.field_laws.ensures.product_zero_right c.args.byte)
          ∙ xor_zero_r (get_or c.args.list.now k 0))
    ]
    ∙ sym (c.degree_laws.ensures.sum_coefficient c.args.list.now (scaled_coefficients c.args.byte uplink_generator) k
    ∙ ap (bit_xor (get_or c.args.list.now k 0)) (c.degree_laws.ensures.scaled_coefficient c.args.byte uplink_generator k)))
