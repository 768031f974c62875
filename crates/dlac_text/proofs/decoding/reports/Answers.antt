use Rattle.std.proofs.Common.{ap, sym, ◌∙◌, [], append-nil}
use Rattle.dlac_text.specs.Reading.{reports_with}
use Rattle.dlac_text.specs.Reports.{reports_of}
use Rattle.dlac_text.specs.SixBits.{six_bit_groups}
use Rattle.dlac_text.proofs.Joining.{from_start}
use Rattle.std.proofs.lemmas.Result.{IfOk-weaker}
use Rattle.dlac_text.proofs.decoding.reports.Goals as goal

pub returns : goal.returns
unfolding reports_of
returns c =
    let last = c.in_ok-take_last.ensures [] in
    let codes = ap (reports_with c.loop-rest.reader) (append-nil (six_bit_groups c.loop-rest.rest.now)) in
    let read = last ∙ codes ∙ sym c.loop-rest.invariant ∙ from_start (six_bit_groups c.args.payload.now) in
    IfOk-weaker c.finish.result _ _ (λ found all. all ∙ read) c.finish.ensures
