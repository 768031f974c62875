use Rattle.std.proofs.Common.{◌≡◌, Result, Ok, Err, IfErr, subst, sym}
use Rattle.std.specs.Result.{IsErrAnd}
use Rattle.text_reports.specs.TextKey.{text_key}
use Rattle.text_reports.specs.Views.{IsFault}
use Rattle.life_table.specs.LifeTable.{row}
use Rattle.text_reports.proofs.Keys.{no_word, one_word, no_row, third_fault, key_found}
use Rattle.text_reports.proofs.Spelling.{listed_word}
use Rattle.text_reports.proofs.key.key_of.Goals as goal

-- what holds of an error holds of the one that is handed on
carried : {T E : Type 0} (r : Result T E) (P : E → Type 0) (e : E) → IsErrAnd r (λ f. f ≡ e) → P e → IfErr r P
carried (Ok x) P e same holds = absurd same
carried (Err f) P e same holds = subst P (sym same) holds

pub returns-in_default-clause-fault : goal.returns-in_default-clause-fault
returns-in_default-clause-fault c = no_word _ _ c.in_default.ensures.words

pub returns-in_default-first_word-clause-fault : goal.returns-in_default-first_word-clause-fault
returns-in_default-first_word-clause-fault c = one_word _ _ _ c.in-Some.behind.now c.in-Some.ensures.words c.in_default-first_word.ensures.words

pub returns-in_default-text_row-clause-fault : goal.returns-in_default-text_row-clause-fault
returns-in_default-text_row-clause-fault c =
    no_row _ _ _ c.in-Some.behind.now _ c.in-Some-first_word.behind.now c.in-Some.ensures.words c.in-Some-first_word.ensures.words c.in_default-text_row.ensures.row

pub returns-in_err-third-clause-fault : goal.returns-in_err-third-clause-fault
returns-in_err-third-clause-fault c =
    let r = c.in-Some-text_row.row in
    let fault = third_fault c.in_err-third.field-0.0 c.args.table.now c.args.text.now c.in-Some.first.now c.in-Some.behind.now c.in-Some-first_word.place.now c.in-Some-first_word.behind.now
    (row c.in-Some.first.now r.kind.now r.words r.life r.form) c.in-Some.ensures.words c.in-Some-first_word.ensures.words c.in-Some-text_row.ensures.row c.in_err-third.ensures.fault in
    carried c.from_residual.result (λ f. IsFault f (text_key c.args.table.now c.args.text.now)) c.in_err-third.field-0.0 c.from_residual.ensures.1 fault

pub returns-clause-key : goal.returns-clause-key
returns-clause-key c =
    let r = c.in-Some-text_row.row in
    let found = key_found c.args.table.now c.args.text.now c.in-Some.first.now c.in-Some.behind.now c.in-Some-first_word.place.now c.in-Some-first_word.behind.now
    (row c.in-Some.first.now r.kind.now r.words r.life r.form) c.in_ok-third.third c.in-Some.ensures.words c.in-Some-first_word.ensures.words c.in-Some-text_row.ensures.row c.in_ok-third.ensures.third in
    rw (c.in_ok-word_of.ensures.word, c.in_ok-word_of-2.ensures.word) found

pub word_of-requires : goal.word_of-requires
word_of-requires c =
    let r = c.in-Some-text_row.row in
    let first = c.in-Some.first.now in
    listed_word r.kind.now (c.in-Some-text_row.ensures.rules.texts first (row first r.kind.now r.words r.life r.form) (sym c.in-Some-text_row.ensures.row)).kind
