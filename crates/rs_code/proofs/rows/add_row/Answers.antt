use Rattle.std.proofs.Common.{◌+◌, ℕ, get_or, arith, ap, ◌∙◌, length-set}
use Rattle.std.specs.Int.Bits.{bit_xor}
use Rattle.list_members.specs.Places.{set_next}
use Rattle.rs_code.proofs.Places.{set_keeps}
use Rattle.rs_code.proofs.rows.add_row.Goals as goal

pub loop-k-preserved : goal.loop-k-preserved
loop-k-preserved g c = record {
  long = length-set _ _ _ ∙ c.loop-k.invariant.long;
  written = set_next (λ (k : ℕ). bit_xor (get_or c.args.list.now k 0) (get_or c.args.table.now (c.args.start + k) 0))
      c.loop-k.list c.loop-k.k _ (let l = c.loop-k.invariant.long in omega arith)
      (ap (λ (x : ℕ). bit_xor x (get_or c.args.table.now (c.args.start + c.loop-k.k) 0)) (c.loop-k.invariant.left c.loop-k.k (omega arith)))
      c.loop-k.invariant.written;
  left = λ k h. set_keeps c.loop-k.list c.loop-k.k k _ (omega arith) ∙ c.loop-k.invariant.left k (omega arith);
}
