use Rattle.std.proofs.Common.{arith}
use Rattle.radar_core.proofs.RankLemmas.{above_by, found, rank_of-byte, rank_of-none, rank_of-end}
use Rattle.radar_core.proofs.bitmap.offset_at.Goals as goal

pub loop-place-init : goal.loop-place-init
loop-place-init c = omega (arith, rank_of-none c.args.bitmap.now 0 (omega arith))

pub overflow_sub-result : goal.overflow_sub-result
overflow_sub-result c =
    let above = above_by c.args.bitmap.now c.loop-place.place c.names_in-names.result c.bit_of_rank.result c.names_in-names.ensures
    c.bit_of_rank.ensures.fits c.bit_of_rank.ensures.is_set
    in
    omega (arith, above)

pub returns-then-left-ones-clause-value : goal.returns-then-left-ones-clause-value
returns-then-left-ones-clause-value c =
    (found c.args.bitmap.now c.loop-place.place c.names_in-names.result c.bit_of_rank.result c.args.rank c.loop-place.left c.names_in-names.ensures
    (omega arith) c.bit_of_rank.ensures.fits c.bit_of_rank.ensures.is_set c.bit_of_rank.ensures.rank c.loop-place.invariant).value

pub loop-place-preserved : goal.loop-place-preserved
loop-place-preserved c =
    let more = rank_of-byte c.args.bitmap.now c.loop-place.place c.names_in-names.result c.names_in-names.ensures (omega arith) in
    omega (arith, more, c.loop-place.invariant)

pub unreachable-requires : goal.unreachable-requires
unreachable-requires c =
    let end = rank_of-end c.args.bitmap.now c.loop-place.place (omega arith) in omega (arith, end, c.loop-place.invariant, c.requires)
