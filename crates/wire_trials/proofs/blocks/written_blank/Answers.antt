use Rattle.std.proofs.Common.{ℕ, subst, sym}
use Rattle.radar_core.specs.Blanks.{IsGroup}
use Rattle.wire_trials.proofs.blocks.written_blank.Goals as goal

pub write_blank-size-requires-clause-group : goal.write_blank-size-requires-clause-group
write_blank-size-requires-clause-group g c =
    subst (λ (n : ℕ). IsGroup n c.args.further.now) (sym c.block.ensures.number) c.requires.group
