use Rattle.std.proofs.Common.{◌≡◌, ℕ, List, arith, rules, sym, ◌∙◌, subst}
use Rattle.rs_code.specs.CodeWord.{IsCodeWord}
use Rattle.uplink_weave.specs.Woven.{block, BeginsWithPart, IsWoven}
use Rattle.list_members.specs.Places.{same_in_front, same_front}
use Rattle.uplink_weave.proofs.Places.{one_more, same_frame}
use Rattle.uplink_weave.proofs.frame.weave.Goals as goal

pub loop-number-preserved : goal.loop-number-preserved
loop-number-preserved c =
    let written : block c.loop-number.number c.write_block.new.air ≡ c.encode.new.word = c.write_block.ensures.block in
    record {
      long = c.write_block.array_long;
      code = one_more (λ (r : ℕ). IsCodeWord 92 20 120 (block r c.write_block.new.air)) c.loop-number.number
          (λ r h. subst (IsCodeWord 92 20 120) (sym (c.write_block.ensures.before r h)) (c.loop-number.invariant.code r h))
          (subst (IsCodeWord 92 20 120) (sym written) c.encode.ensures.code);
      parts = one_more (λ (r : ℕ). BeginsWithPart r c.args.payload.now (block r c.write_block.new.air)) c.loop-number.number
          (λ r h. subst (BeginsWithPart r c.args.payload.now) (sym (c.write_block.ensures.before r h)) (c.loop-number.invariant.parts r h))
          (subst (BeginsWithPart c.loop-number.number c.args.payload.now) (sym written)
          (λ k h. same_in_front 72 c.encode.new.word c.read_part-word.result c.encode.ensures.front k h ∙ c.read_part-word.ensures k h));
      only = one_more
          (λ (r : ℕ). (other : List ℕ) → IsCodeWord 92 20 120 other → BeginsWithPart r c.args.payload.now other
          → other ≡ block r c.write_block.new.air)
          c.loop-number.number
          (λ r h other code part. c.loop-number.invariant.only r h other code part ∙ sym (c.write_block.ensures.before r h))
          (λ other code part.
          c.encode.ensures.only other code
          (same_front 72 other c.read_part-word.result (let l = code.long in omega arith) (omega arith)
          (λ k h. part k h ∙ sym (c.read_part-word.ensures k h)))
          ∙ sym written);
    }

pub returns-clause-only : goal.returns-clause-only
returns-clause-only c = λ other woven.
    same_frame other c.loop-number.air woven.long c.loop-number.invariant.long
    (λ r h. c.loop-number.invariant.only r (omega arith) (block r other) (woven.code r h) (woven.parts r h))

pub returns-clause-function : goal.returns-clause-function
returns-clause-function c =
    let is : IsWoven c.args.payload.now c.loop-number.air = search rules in
    c.woven_is_the_frame.ensures.only c.args.payload.now c.loop-number.air is
