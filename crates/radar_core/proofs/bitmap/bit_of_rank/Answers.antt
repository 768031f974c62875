use Rattle.std.proofs.Common.{◌≡◌, ap, arith}
use Rattle.radar_core.specs.Ranks.{ones_below}
use Rattle.radar_core.proofs.RankLemmas.{ones_below-zero, more_set, more_unset, count_ones-byte}
use Rattle.radar_core.proofs.bitmap.bit_of_rank.Goals as goal
use Rattle.radar_core.proofs.bitmap.bit_of_rank.Goals.{then-names-bit-eq1+else-left-eq0, else-names-bit-eq1}

pub loop-bit-init : goal.loop-bit-init
loop-bit-init c = omega (arith, ones_below-zero c.args.names)

pub loop-bit-preserved : goal.loop-bit-preserved
loop-bit-preserved c =
    elim c.if-names-bit-eq1.branch [
      | then-names-bit-eq1+else-left-eq0 w ↦
          let more = more_set c.args.names c.loop-bit.bit w.if-names-bit-eq1.true in omega (arith, more, c.loop-bit.invariant)
      | else-names-bit-eq1 w ↦
          let more = more_unset c.args.names c.loop-bit.bit w.if-names-bit-eq1.false in omega (arith, more, c.loop-bit.invariant)
    ]

pub unreachable-requires : goal.unreachable-requires
unreachable-requires c =
    let end : c.loop-bit.bit ≡ 8 = omega arith in
    omega (arith, ap (ones_below c.args.names) end, count_ones-byte c.args.names (omega arith), c.loop-bit.invariant, c.requires)
