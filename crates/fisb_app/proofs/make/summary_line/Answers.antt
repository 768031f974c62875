use Rattle.std.proofs.Common.{◌≡◌, ◌∙◌, string_bytes}
use Rattle.std.proofs.lemmas.Result.{IfOk-weaker}
use Rattle.fisb_app.specs.Make.{summary_text}
use Rattle.fisb_app.proofs.PrintSummary.{summary_pieces, summary-line}
use Rattle.fisb_app.proofs.make.summary_line.Goals as goal

pub returns : goal.returns
returns c =
    IfOk-weaker c.format.result
    (λ s. string_bytes s ≡ summary_pieces c.args.count c.args.seed c.args.counts c.saturating_sub-lost.result)
    (λ s. string_bytes s ≡ summary_text c.args.count c.args.seed c.args.counts)
    (λ s is. is ∙ summary-line c.args.count c.args.seed c.args.counts c.saturating_sub-lost.result c.saturating_sub-lost.ensures)
    c.format.ensures.ok
