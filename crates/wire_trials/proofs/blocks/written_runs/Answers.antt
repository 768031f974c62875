use Rattle.std.proofs.Common.{arith}
use Rattle.wire_trials.proofs.blocks.written_runs.Goals as goal

pub write_runs-size-requires : goal.write_runs-size-requires
write_runs-size-requires g c = record { scale = c.block.ensures.scale; number = omega (arith, c.block.ensures.number) }
