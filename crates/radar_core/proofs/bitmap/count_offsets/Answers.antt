use Rattle.std.proofs.Common.{◌≡◌, sym, ◌∙◌, arith}
use Rattle.radar_core.specs.Ranks.{names_at}
use Rattle.radar_core.proofs.RankLemmas.{count_ones-le, rank_of-byte, rank_of-none, rank_of-end}
use Rattle.radar_core.proofs.bitmap.count_offsets.Goals as goal

pub loop-place-init : goal.loop-place-init
loop-place-init c = record { is = sym (rank_of-none c.args.bitmap.now 0 (omega arith)); most = omega arith }

pub loop-place-preserved : goal.loop-place-preserved
loop-place-preserved c =
    let bitmap = c.args.bitmap.now in
    let place = c.loop-place.place in
    let names : c.names_in.result ≡ names_at bitmap place = c.names_in.ensures in
    let more = rank_of-byte bitmap place c.names_in.result names (omega arith) in
    record { is = omega (arith, more, c.loop-place.invariant.is); most = omega (arith, count_ones-le c.names_in.result (omega arith), c.loop-place.invariant.most) }

pub returns : goal.returns
returns c = c.loop-place.invariant.is ∙ rank_of-end c.args.bitmap.now c.loop-place.place (omega arith)
