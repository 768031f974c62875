use Rattle.std.proofs.Common.{◌≡◌, true, IfOk, sym, ap, subst, ◌∙◌}
use Rattle.std.specs.String.{string_bytes}
use Rattle.std.specs.List.{list_all}
use Rattle.dlac_text.specs.Plain.{is_itself}
use Rattle.dlac_text.proofs.PlainLemmas.{plain_text_itself}
use Rattle.dlac_text.proofs.printing.plain.Goals as goal

pub returns-then-is_itself : goal.returns-then-is_itself
returns-then-is_itself c =
    let same : list_all is_itself c.args.report.now ≡ true
    = ap (list_all is_itself) (sym (c.as_bytes.ensures.value ∙ c.all.ensures.text)) ∙ sym c.is_itself.ensures ∙ c.if-is_itself.true in
    subst (λ xs. IfOk c.from_str.result (λ text. string_bytes text ≡ xs)) (c.all-then-is_itself.ensures.text ∙ sym (plain_text_itself c.args.report.now same)) c.from_str.ensures.ok
