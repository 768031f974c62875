use Rattle.std.proofs.Common.{ℕ, arith, suc, drop, get_or, ap, sym, ◌∙◌, add-one, drop-cons}
use Rattle.std.specs.Int.Bits.{bit_xor, xor_zero_r, xor_assoc, xor_zero_l}
use Rattle.std.proofs.lemmas.List.{drop_all}
use Rattle.rs_code.specs.Mending.{total_of}
use Rattle.rs_code.proofs.Solving.{total_of-empty, total_of-cons}
use Rattle.rs_code.proofs.values.total.Goals as goal

pub loop-byte-init : goal.loop-byte-init
loop-byte-init c = xor_zero_l (total_of c.args.bytes.now)

pub loop-byte-preserved : goal.loop-byte-preserved
loop-byte-preserved c =
    ap (λ (n : ℕ). bit_xor (bit_xor c.loop-byte.total (get_or c.args.bytes.now c.loop-byte.byte-index 0)) (total_of (drop n c.args.bytes.now)))
    (add-one c.loop-byte.byte-index)
    ∙ xor_assoc c.loop-byte.total (get_or c.args.bytes.now c.loop-byte.byte-index 0) (total_of (drop (suc c.loop-byte.byte-index) c.args.bytes.now))
    ∙ ap (bit_xor c.loop-byte.total)
    (sym (total_of-cons (get_or c.args.bytes.now c.loop-byte.byte-index 0) (drop (suc c.loop-byte.byte-index) c.args.bytes.now))
    ∙ sym (ap total_of (drop-cons c.args.bytes.now c.loop-byte.byte-index 0 (omega arith))))
    ∙ c.loop-byte.invariant

pub returns : goal.returns
returns c =
    sym (ap (bit_xor c.loop-byte.total)
    (ap total_of (drop_all c.loop-byte.byte-index c.args.bytes.now (omega arith)) ∙ total_of-empty)
    ∙ xor_zero_r c.loop-byte.total)
    ∙ c.loop-byte.invariant
