use Rattle.std.proofs.Common.{ap, sym, ◌∙◌, false, ◌++◌, replicate, rules, [], ◌∷◌}
use Rattle.std.proofs.lemmas.Result.{on_ok_weaker}
use Rattle.dlac_text.specs.Alphabet.{character_or_zero}
use Rattle.dlac_text.proofs.ReadingSteps.{reading, spaces_read, end_read, character_read}
use Rattle.dlac_text.proofs.reader.Reader.take.Goals as goal

pub returns-then-self : goal.returns-then-self
returns-then-self c =
    let view = c.self.view_is in
    let tab = ap (λ r. r.is_tab) (sym view) ∙ c.if-self.true in
    on_ok_weaker c.push_spaces.result
    (λ pushed. spaces_read c.args.self.now _ c.args.code tab (ap (λ t. reading c.self.inside.found.items t false) pushed ∙ ap (λ r. reading r.reports (r.text ++ replicate c.args.code 32) false) view)) c.push_spaces.ensures

pub returns-in-0 : goal.returns-in-0
returns-in-0 c =
    let no_tab = ap (λ r. r.is_tab) (sym c.self.view_is) ∙ c.if-self.false in
    on_ok_weaker c.end_report.result (λ ended. end_read c.args.self.now _ c.args.code c.in-0.is no_tab ended) c.end_report.ensures

pub returns-in_ok-begin_text-in_default : goal.returns-in_ok-begin_text-in_default
returns-in_ok-begin_text-in_default c =
    let no_tab = ap (λ r. r.is_tab) (sym c.self.view_is) ∙ c.if-self.false in
    let now = c.self-in_default in
    let same = now.view_is ∙ c.begin_text.ensures in
    on_ok_weaker c.push.result
    (λ pushed. character_read c.args.self.now _ c.args.code (search rules) (search rules) (search rules) no_tab (ap (λ t. reading now.inside.found.items t now.inside.is_tab) (pushed ∙ ap (λ x. now.inside.text ++ x ∷ []) c.character_or_zero.ensures) ∙ ap (λ r. reading r.reports (r.text ++ character_or_zero c.args.code ∷ []) r.is_tab) same)) c.push.ensures
