use Rattle.std.proofs.Common.{ap, ◌∙◌, sym, option_map}
use Rattle.std.specs.String.{string_bytes}
use Rattle.dlac_text.specs.Plain.{text_of_plain}
use Rattle.script_core.proofs.ReportTexts.{report_of_text, report_of_other}
use Rattle.script_core.proofs.reading.read_report.Goals as goal

pub returns-in_default-clause-syntax : goal.returns-in_default-clause-syntax
returns-in_default-clause-syntax c = λ e. report_of_other c.args.bytes.now c.in_default.ensures.cases.0

pub returns-in-Ok-Some-clause-report : goal.returns-in-Ok-Some-clause-report
returns-in-Ok-Some-clause-report c =
    report_of_text c.args.bytes.now c.in-Ok.ensures.cases.1 ∙ ap text_of_plain (sym c.in-Ok.ensures.cases.0) ∙ sym c.in-Ok-Some.ensures ∙ ap (option_map string_bytes) c.in-Ok-Some.field-0-is

pub returns-in-Ok-None-clause-syntax : goal.returns-in-Ok-None-clause-syntax
returns-in-Ok-None-clause-syntax c =
    λ e. report_of_text c.args.bytes.now c.in-Ok.ensures.cases.1 ∙ ap text_of_plain (sym c.in-Ok.ensures.cases.0) ∙ sym c.in-Ok-None.ensures ∙ ap (option_map string_bytes) c.in-Ok-None.field-0-is
