use Rattle.std.proofs.Common.{◌≡◌, ◌∷◌, Some, None, ◌∙◌, option_copied}
use Rattle.std.specs.String.{string_bytes}
use Rattle.script_core.specs.Fields.{fields, fields_left}
use Rattle.script_core.proofs.ReportTexts.{text_cut, text_with_report}
use Rattle.script_core.proofs.reading.read_text.Goals as goal

pub returns-in-Err-clause-syntax : goal.returns-in-Err-clause-syntax
returns-in-Err-clause-syntax c =
    λ e.
    let m = c.in-Some.moment.now in
    let v = c.in-Some-next_field.version.now in
    let r = c.in-Some-rest.report.now in
    let next : fields_left (option_copied c.in-Some.rest) ≡ v ∷ fields r = rw c.in-Some-rest.is at c.in-Some-next_field.ensures in
    text_cut _ _ m v r c.in-Some.ensures next
    ∙ text_with_report _ _ m v r None c.in-Some-read_moment.ensures.moment c.in-Some-read_moment-2.ensures.moment (c.in-Err.ensures.syntax (cc))

pub returns-in-Ok-clause-line : goal.returns-in-Ok-clause-line
returns-in-Ok-clause-line c =
    let m = c.in-Some.moment.now in
    let v = c.in-Some-next_field.version.now in
    let r = c.in-Some-rest.report.now in
    let next : fields_left (option_copied c.in-Some.rest) ≡ v ∷ fields r = rw c.in-Some-rest.is at c.in-Some-next_field.ensures in
    text_cut _ _ m v r c.in-Some.ensures next
    ∙ text_with_report _ _ m v r (Some (string_bytes c.in-Ok.report)) c.in-Some-read_moment.ensures.moment c.in-Some-read_moment-2.ensures.moment c.in-Ok.ensures.report
