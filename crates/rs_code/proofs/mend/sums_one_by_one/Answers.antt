use Rattle.std.proofs.Common.{◌+◌, ℕ, arith, ◌∙◌, length-set}
use Rattle.rs_code.specs.CodeWord.{power_sum}
use Rattle.list_members.specs.Places.{set_next}
use Rattle.rs_code.proofs.mend.sums_one_by_one.Goals as goal

pub loop-k-preserved : goal.loop-k-preserved
loop-k-preserved g c = record {
  long = length-set _ _ _ ∙ c.loop-k.invariant.long;
  written = set_next (λ (i : ℕ). power_sum c.args.word.now (c.args.first + i)) c.loop-k.sums c.loop-k.k _
      (let l = c.loop-k.invariant.long in omega arith) (c.byte.ensures ∙ c.sum_of_word.ensures.value) c.loop-k.invariant.written;
}
