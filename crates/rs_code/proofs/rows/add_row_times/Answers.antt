use Rattle.std.proofs.Common.{◌≡◌, ◌+◌, ◌*◌, ◌/◌, ◌%◌, ◌^◌, ◌<◌, ℕ, get_or, arith, ap, sym, ◌∙◌}
use Rattle.std.specs.Int.Bits.{bit_xor, xor_zero_r}
use Rattle.poly256.specs.Polynomial.{element_product}
use Rattle.rs_code.proofs.PowerRows.{bit_set, bit_clear, higher_bits}
use Rattle.rs_code.proofs.rows.add_row_times.Goals.{then-rest-eq1, else-rest-eq1}
use Rattle.rs_code.proofs.rows.add_row_times.Goals as goal

pub loop-bit-init : goal.loop-bit-init
loop-bit-init g c = record {
  left = omega arith;
  written = λ k h.
      sym (ap (λ (x : ℕ). bit_xor (get_or c.args.list.now k 0) (element_product x (get_or c.args.table.now (c.args.start + k) 0)))
      (let m : c.args.factor % 1 ≡ 0 = omega arith in m)
      ∙ ap (bit_xor (get_or c.args.list.now k 0)) (c.field_laws.ensures.product_zero (get_or c.args.table.now (c.args.start + k) 0))
      ∙ xor_zero_r (get_or c.args.list.now k 0));
}

pub loop-bit-preserved : goal.loop-bit-preserved
loop-bit-preserved g c =
    let low = c.loop-bit-test.true in
    let fits : c.args.factor < 256 = let r = c.ranges.factor.fits in omega arith in
    let left : c.loop-bit.rest / 2 ≡ c.args.factor / 2 ^ (c.loop-bit.bit + 1) =
    ap (λ (x : ℕ). x / 2) c.loop-bit.invariant.left ∙ sym (higher_bits c.args.factor c.loop-bit.bit fits low) in
    elim c.if-rest-eq1.branch [
      | then-rest-eq1 w ↦
          rw w.list-is
          (record {
            left = left;
            written = λ k h.
                w.add_row.ensures k h
                ∙ bit_set c.field_laws.ensures c.args.factor c.loop-bit.bit (get_or c.loop-bit.list k 0) (get_or c.args.list.now k 0)
                (get_or c.args.table.now (c.args.start + k) 0) (get_or c.args.table.now (c.args.start + g.row.WIDTH * c.loop-bit.bit + k) 0) fits low
                (ap (λ (x : ℕ). x % 2) (sym c.loop-bit.invariant.left) ∙ w.if-rest-eq1.true)
                (c.requires.rows c.loop-bit.bit k low h) (c.loop-bit.invariant.written k h);
          })
      | else-rest-eq1 w ↦
          rw w.list-is
          (record {
            left = left;
            written = λ k h.
                bit_clear c.args.factor c.loop-bit.bit (get_or c.loop-bit.list k 0) (get_or c.args.list.now k 0)
                (get_or c.args.table.now (c.args.start + k) 0) fits low
                (ap (λ (x : ℕ). x % 2) (sym c.loop-bit.invariant.left) ∙ (let n = w.if-rest-eq1.false in omega arith))
                (c.loop-bit.invariant.written k h);
          })
    ]

pub returns : goal.returns
returns g c =
    let last : c.loop-bit.bit ≡ 8 = let t = c.loop-bit-test.false in let l = c.loop-bit.auto.bit-end in omega arith in
    let whole : c.args.factor % 2 ^ c.loop-bit.bit ≡ c.args.factor =
    ap (λ (n : ℕ). c.args.factor % 2 ^ n) last ∙ (let r = c.ranges.factor.fits in let m : c.args.factor % 256 ≡ c.args.factor = omega arith in m) in
    λ k h.
    c.loop-bit.invariant.written k h
    ∙ ap (λ (x : ℕ). bit_xor (get_or c.args.list.now k 0) (element_product x (get_or c.args.table.now (c.args.start + k) 0))) whole
