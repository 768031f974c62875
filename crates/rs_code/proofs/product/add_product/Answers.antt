use Rattle.std.proofs.Common.{◌≡◌, ◌≤◌, ◌+◌, ℕ, length, get_or, arith, ap, ap₂, sym, ◌∙◌, inl, inr}
use Rattle.std.specs.Int.Bits.{bit_xor}
use Rattle.std.proofs.lemmas.Bool.{cases_eq}
use Rattle.std.proofs.lemmas.Grind.{get_or-set_at}
use Rattle.std.proofs.lemmas.List.{get_or-set_other}
use Rattle.poly256.specs.Polynomial.{element_product}
use Rattle.rs_code.proofs.Dividing.{same_as_multiple}
use Rattle.rs_code.proofs.product.add_product.Goals as goal

pub loop-i-preserved : goal.loop-i-preserved
loop-i-preserved c =
    let room = c.requires in
    let same : length c.loop-i.room ≡ length c.args.room.now = c.loop-i.auto.room in
    let inside = c.loop-i-test.true in
    record {
      written = λ k h. elim (cases_eq k c.loop-i.i) [
        | inl here ↦
            get_or-set_at c.loop-i.room (c.args.place + c.loop-i.i) (c.args.place + k) _ 0 (omega arith) (omega arith)
            ∙ ap₂ bit_xor (c.loop-i.invariant.left (c.args.place + c.loop-i.i) (omega arith))
            (c.byte.ensures ∙ c.times.ensures.value ∙ ap (element_product c.args.factor) c.of.ensures.value)
            ∙ ap (λ (n : ℕ). bit_xor (get_or c.args.room.now (c.args.place + n) 0) (element_product c.args.factor (get_or c.args.polynomial.now n 0))) (sym here)
        | inr apart ↦
            get_or-set_other c.loop-i.room (c.args.place + c.loop-i.i) (c.args.place + k) _ 0 (λ e. apart (omega arith))
            ∙ c.loop-i.invariant.written k (omega arith)
      ];
      before = λ k h.
          get_or-set_other c.loop-i.room (c.args.place + c.loop-i.i) k _ 0 (λ e. absurd (omega arith)) ∙ c.loop-i.invariant.before k h;
      left = λ k h.
          get_or-set_other c.loop-i.room (c.args.place + c.loop-i.i) k _ 0 (λ e. absurd (omega arith)) ∙ c.loop-i.invariant.left k (omega arith);
    }

pub returns : goal.returns
returns c =
    let last : c.loop-i.i ≤ length c.args.polynomial.now = c.loop-i.auto.i-end in
    let t = c.loop-i-test.false in
    same_as_multiple c.field_laws.ensures c.degree_laws.ensures c.args.room.now c.loop-i.room c.args.polynomial.now c.args.place c.args.factor c.loop-i.auto.room c.requires
    (λ k h. c.loop-i.invariant.written k (omega arith)) c.loop-i.invariant.before
    (λ k h. c.loop-i.invariant.left k (omega arith))
