use Rattle.std.proofs.Common.{◌≡◌, ℕ, arith, ap, sym, ◌∙◌, ◌+◌, set, get_or, drop}
use Rattle.std.specs.Int.Bits.{bit_xor}
use Rattle.poly256.specs.Polynomial.{sum_of, raised_coefficients, scaled_coefficients, element_product}
use Rattle.poly256.proofs.Rooms.{multiple_step, multiple_end}
use Rattle.poly256.proofs.room.add_multiple.Goals as goal

pub loop-i-preserved : goal.loop-i-preserved
loop-i-preserved c =
    let term : c.byte.result ≡ element_product c.args.factor (get_or c.args.list.now c.loop-i.i 0) =
    c.byte.ensures ∙ c.mul-term.ensures.value ∙ ap (element_product c.args.factor) c.of.ensures.value in
    ap (λ (t : ℕ). sum_of
    (set c.loop-i.room (c.args.place + c.loop-i.i) (bit_xor (get_or c.loop-i.room (c.args.place + c.loop-i.i) 0) t))
    (raised_coefficients (c.args.place + (c.loop-i.i + 1)) (scaled_coefficients c.args.factor (drop (c.loop-i.i + 1) c.args.list.now))))
    term
    ∙ multiple_step c.loop-i.room c.args.list.now c.args.place c.loop-i.i c.args.factor (omega arith) (omega arith)
    ∙ c.loop-i.invariant

pub returns : goal.returns
returns c =
    sym (multiple_end c.loop-i.room c.args.list.now c.args.place c.loop-i.i c.args.factor (omega arith)) ∙ c.loop-i.invariant
