use Rattle.std.proofs.Common.{◌+◌, ◌*◌, ℕ, get_or, arith, ◌∙◌, refl, length-set}
use Rattle.list_members.specs.Places.{set_next}
use Rattle.uplink_weave.proofs.Places.{is_block}
use Rattle.uplink_weave.proofs.blocks.read_block.Goals as goal

pub loop-k-preserved : goal.loop-k-preserved
loop-k-preserved c = record {
  long = length-set _ _ _ ∙ c.loop-k.invariant.long;
  bytes = set_next (λ (i : ℕ). get_or c.args.air.now (6 * i + c.args.number) 0) c.loop-k.word c.loop-k.k _
      (let l = c.loop-k.invariant.long in omega arith) refl c.loop-k.invariant.bytes;
}

pub returns : goal.returns
returns c =
    is_block c.args.number c.args.air.now c.loop-k.word c.loop-k.invariant.long
    (λ k h. c.loop-k.invariant.bytes k (omega arith))
