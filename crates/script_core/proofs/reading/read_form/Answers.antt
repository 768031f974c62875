use Rattle.std.proofs.Common.{◌≡◌, ◌<◌, true, false, length, codes, sym, ◌∙◌, arith}
use Rattle.std.proofs.lemmas.Bool.Decides.{nat_tests}
use Rattle.std.proofs.lemmas.Result.{IfOk-weaker}
use Rattle.script_core.specs.Fields.{is_word}
use Rattle.script_core.proofs.LineForms.{line_of_text, line_of_blank, line_of_hear, line_of_other}
use Rattle.script_core.proofs.reading.read_form.Goals as goal

pub returns-then-is_word-clause-line : goal.returns-then-is_word-clause-line
returns-then-is_word-clause-line c =
    let some : 0 < length c.args.line.now = grind (arith, nat_tests) in
    let is_text : is_word c.in-Some.word.now (codes "text") ≡ true = sym c.is_word.ensures ∙ c.if-is_word.true in
    let same = line_of_text c.args.line.now _ _ some c.in-Some.ensures is_text in
    IfOk-weaker c.read_text.result _ _ (λ read spelled. same ∙ spelled) c.read_text.ensures.line

pub returns-then-is_word-2-clause-line : goal.returns-then-is_word-2-clause-line
returns-then-is_word-2-clause-line c =
    let some : 0 < length c.args.line.now = grind (arith, nat_tests) in
    let no_text : is_word c.in-Some.word.now (codes "text") ≡ false = sym c.is_word.ensures ∙ c.if-is_word.false in
    let is_blank : is_word c.in-Some.word.now (codes "blank") ≡ true = sym c.is_word-2.ensures ∙ c.if-is_word-2.true in
    let same = line_of_blank c.args.line.now _ _ some c.in-Some.ensures no_text is_blank in
    IfOk-weaker c.read_blank.result _ _ (λ read spelled. same ∙ spelled) c.read_blank.ensures.line

pub returns-then-is_word-3-clause-line : goal.returns-then-is_word-3-clause-line
returns-then-is_word-3-clause-line c =
    let some : 0 < length c.args.line.now = grind (arith, nat_tests) in
    let no_text : is_word c.in-Some.word.now (codes "text") ≡ false = sym c.is_word.ensures ∙ c.if-is_word.false in
    let no_blank : is_word c.in-Some.word.now (codes "blank") ≡ false = sym c.is_word-2.ensures ∙ c.if-is_word-2.false in
    let is_hear : is_word c.in-Some.word.now (codes "hear") ≡ true = sym c.is_word-3.ensures ∙ c.if-is_word-3.true in
    let same = line_of_hear c.args.line.now _ _ some c.in-Some.ensures no_text no_blank is_hear in
    IfOk-weaker c.read_hear.result _ _ (λ read spelled. same ∙ spelled) c.read_hear.ensures.line

pub returns-in-Some-read_other-clause-line : goal.returns-in-Some-read_other-clause-line
returns-in-Some-read_other-clause-line c =
    let some : 0 < length c.args.line.now = grind (arith, nat_tests) in
    let no_text : is_word c.in-Some.word.now (codes "text") ≡ false = sym c.is_word.ensures ∙ c.if-is_word.false in
    let no_blank : is_word c.in-Some.word.now (codes "blank") ≡ false = sym c.is_word-2.ensures ∙ c.if-is_word-2.false in
    let no_hear : is_word c.in-Some.word.now (codes "hear") ≡ false = sym c.is_word-3.ensures ∙ c.if-is_word-3.false in
    line_of_other c.args.line.now _ _ some c.in-Some.ensures no_text no_blank no_hear ∙ sym c.in-Some-read_other.ensures

pub returns-in-None-clause-syntax : goal.returns-in-None-clause-syntax
returns-in-None-clause-syntax c =
    λ e.
    let some : 0 < length c.args.line.now = grind (arith, nat_tests) in
    let no_text : is_word c.in-Some.word.now (codes "text") ≡ false = sym c.is_word.ensures ∙ c.if-is_word.false in
    let no_blank : is_word c.in-Some.word.now (codes "blank") ≡ false = sym c.is_word-2.ensures ∙ c.if-is_word-2.false in
    let no_hear : is_word c.in-Some.word.now (codes "hear") ≡ false = sym c.is_word-3.ensures ∙ c.if-is_word-3.false in
    line_of_other c.args.line.now _ _ some c.in-Some.ensures no_text no_blank no_hear ∙ sym c.in-None.ensures
