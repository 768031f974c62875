use Rattle.std.proofs.Common.{ℕ, ◌+◌, ap, sym, ◌∙◌, arith, drop, slice_index_or, slice_set}
use Rattle.std.proofs.lemmas.List.{drop_more, drop_all, length-set}
use Rattle.fisb_app.specs.Past.{air_heard}
use Rattle.fisb_app.proofs.Damaged.{nothing-wrong, one-put}
use Rattle.fisb_app.proofs.link.put_wrong.Goals as goal

pub loop-place-preserved : goal.loop-place-preserved
loop-place-preserved c =
    let wrong = c.args.wrong.now in
    let air = c.loop-place.air in
    let i = c.loop-place.place-index in
    let one : ℕ × ℕ = slice_index_or wrong i (0, 0) in
    let within = c.loop-place-test.true in
    let long = c.loop-place.invariant.long in
    let range = c.requires i (0, 0) within in
    let below = range.0 in
    record {
      heard = ap (λ place. air_heard (drop (i + 1) wrong) (slice_set air place one.1)) c.from.ensures
          ∙ sym (one-put one (drop (i + 1) wrong) air (omega (arith, below, long)))
          ∙ ap (λ rest. air_heard rest air) (sym (drop_more wrong i (0, 0) within))
          ∙ c.loop-place.invariant.heard;
      long = length-set air _ _ ∙ long;
    }

pub returns : goal.returns
returns c =
    let past = c.loop-place-test.false in
    sym (nothing-wrong c.loop-place.air c.loop-place.invariant.long)
    ∙ ap (λ rest. air_heard rest c.loop-place.air) (sym (drop_all c.loop-place.place-index c.args.wrong.now (omega (arith, past))))
    ∙ c.loop-place.invariant.heard
