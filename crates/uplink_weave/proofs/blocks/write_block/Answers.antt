use Rattle.std.proofs.Common.{◌+◌, ◌*◌, ℕ, get_or, arith, sym, ◌∙◌, refl, length-set}
use Rattle.std.proofs.lemmas.List.{get_or-set_other}
use Rattle.list_members.specs.Places.{set_grows}
use Rattle.uplink_weave.proofs.Places.{is_block, same_block}
use Rattle.uplink_weave.proofs.blocks.write_block.Goals as goal

pub loop-k-preserved : goal.loop-k-preserved
loop-k-preserved c = record {
  long = length-set _ _ _ ∙ c.loop-k.invariant.long;
  bytes = set_grows (λ (i : ℕ). 6 * i + c.args.number) (λ (i : ℕ). get_or c.args.word.now i 0) c.loop-k.air c.loop-k.k _
      (let l = c.loop-k.invariant.long in omega arith) refl (λ i h e. absurd (omega arith)) c.loop-k.invariant.bytes;
  before = λ lower i h.
      get_or-set_other c.loop-k.air (6 * c.loop-k.k + c.args.number) (6 * i + lower) _ 0 (λ e. absurd (omega arith))
      ∙ c.loop-k.invariant.before lower i h;
}

pub returns-clause-block : goal.returns-clause-block
returns-clause-block c =
    sym (is_block c.args.number c.loop-k.air c.args.word.now (omega arith)
    (λ k h. sym (c.loop-k.invariant.bytes k (omega arith))))

pub returns-clause-before : goal.returns-clause-before
returns-clause-before c = λ lower h. same_block lower c.loop-k.air _ (λ k h'. c.loop-k.invariant.before lower k h)
