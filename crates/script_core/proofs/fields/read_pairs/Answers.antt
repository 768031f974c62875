use Rattle.std.proofs.Common.{length-set, sym, ap, ◌∙◌, arith}
use Rattle.std.specs.Result.{result_ok}
use Rattle.hex.specs.Hex.{decode_sized}
use Rattle.script_core.proofs.HexPairs.{made_more, above_more, reached_more, pairs_read}
use Rattle.script_core.proofs.fields.read_pairs.Goals as goal

pub loop-place-preserved : goal.loop-place-preserved
loop-place-preserved c =
    let kept = c.loop-place.invariant in
    let digits = c.args.digits.now in
    let place = c.loop-place.place in
    let high = c.digit_value-high.result in
    let low = c.digit_value-low.result in record {
      long = length-set _ _ _ ∙ kept.long;
      made = made_more digits c.loop-place.bytes place high low (omega arith) c.digit_value-high.ensures c.digit_value-low.ensures kept.made;
      above = above_more digits place high low c.loop-place.greatest c.max.result c.max-greatest.result c.digit_value-high.ensures c.digit_value-low.ensures c.max.ensures c.max-greatest.ensures kept.above;
      reached = reached_more digits place high low c.loop-place.greatest c.max.result c.max-greatest.result c.digit_value-high.ensures c.digit_value-low.ensures c.max.ensures c.max-greatest.ensures kept.reached;
    }

pub returns : goal.returns
returns c =
    let kept = c.loop-place.invariant in
    let long = kept.long in
    let twice = c.requires in
    ap (λ n. result_ok (decode_sized c.args.digits.now n)) (sym long)
    ∙ pairs_read c.args.digits.now c.loop-place.bytes c.loop-place.greatest (omega (arith, long, twice))
    (λ k within. kept.made k (omega (arith, within, long)))
    (λ k within. kept.above k (omega (arith, within, long)))
    (λ great. let one = kept.reached great in (one.0, (let below = one.1 in omega (arith, below, long)), one.2))
