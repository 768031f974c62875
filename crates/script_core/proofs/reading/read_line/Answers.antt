use Rattle.std.proofs.lemmas.Result.{IfOk-weaker}
use Rattle.script_core.proofs.LineRanges.{ranges_of_lines}
use Rattle.script_core.proofs.reading.read_line.Goals as goal

pub returns-clause-ranges : goal.returns-clause-ranges
returns-clause-ranges c = IfOk-weaker c.read_form.result _ _ (λ read spelled. ranges_of_lines c.shown_texts.ensures c.args.line.now _ spelled) c.read_form.ensures.line
