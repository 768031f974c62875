use Rattle.std.proofs.Common.{◌+◌, ◌*◌, ℕ, get_or, arith, sym, ◌∙◌, refl, length-set}
use Rattle.std.proofs.lemmas.List.{get_or-set_other}
use Rattle.list_members.specs.Places.{set_grows}
use Rattle.uplink_weave.proofs.blocks.write_part.Goals as goal

pub loop-k-preserved : goal.loop-k-preserved
loop-k-preserved c = record {
  long = length-set _ _ _ ∙ c.loop-k.invariant.long;
  bytes = set_grows (λ (i : ℕ). 72 * c.args.number + i) (λ (i : ℕ). get_or c.args.word.now i 0) c.loop-k.payload c.loop-k.k _
      (let l = c.loop-k.invariant.long in omega arith) refl (λ i h e. absurd (omega arith)) c.loop-k.invariant.bytes;
  before = λ i h.
      get_or-set_other c.loop-k.payload (72 * c.args.number + c.loop-k.k) i _ 0 (λ e. absurd (omega arith))
      ∙ c.loop-k.invariant.before i h;
}

pub returns-clause-part : goal.returns-clause-part
returns-clause-part c = λ k h. sym (c.loop-k.invariant.bytes k (omega arith))

pub returns-clause-before : goal.returns-clause-before
returns-clause-before c = c.loop-k.invariant.before
