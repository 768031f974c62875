use Rattle.std.proofs.Common.{◌≡◌, ◌<◌, ℕ, zero, suc, Bool, true, false, length, get_or, sym, ◌∙◌, arith}
use Rattle.std.proofs.lemmas.Bool.{eqb-false, false≢true}
use Rattle.text_reports.specs.TextKey.{is_blank}
use Rattle.text_reports.proofs.Cutting.{words_of_cut}
use Rattle.text_reports.proofs.Spelling.{front_word}
use Rattle.text_reports.proofs.cut.first_word.Goals as goal

-- a front that ends before a blank, in a text that begins with none, is not empty
not_at_once : (n size : ℕ) (blank : ℕ → Bool) → 0 < size → (0 < size → blank 0 ≡ false) → (n < size → blank n ≡ true) → 0 < n
not_at_once zero size blank long begins stop = absurd (false≢true (sym (begins long) ∙ stop long))
not_at_once (suc n) size blank long begins stop = omega arith

pub returns-clause-words : goal.returns-clause-words
returns-clause-words c =
    let text = c.without_blanks-text.result.now in
    let n = c.front_len.result in
    let within = rw c.as_bytes.ensures.value at c.front_len.ensures.within in
    let front = rw c.as_bytes.ensures.value at c.front_len.ensures.front in
    let behind = rw c.as_bytes.ensures.value at c.front_len.ensures.behind in
    let nonzero = eqb-false (length text) 0 (sym c.is_empty.ensures ∙ c.if-is_empty.false) in
    let long : 0 < length text = omega (arith, nonzero) in
    let some : 0 < n = not_at_once n (length text) (λ k. is_blank (get_or text k 0)) long c.without_blanks-text.ensures.begins behind in
    rw (c.split_at.ensures.front, c.split_at.ensures.back, ← c.without_blanks-text.ensures.words) (words_of_cut text n some within front behind)

pub returns-clause-word : goal.returns-clause-word
returns-clause-word c =
    let text = c.without_blanks-text.result.now in
    let n = c.front_len.result in
    let within = rw c.as_bytes.ensures.value at c.front_len.ensures.within in
    let front = rw c.as_bytes.ensures.value at c.front_len.ensures.front in
    let behind = rw c.as_bytes.ensures.value at c.front_len.ensures.behind in
    let nonzero = eqb-false (length text) 0 (sym c.is_empty.ensures ∙ c.if-is_empty.false) in
    let long : 0 < length text = omega (arith, nonzero) in
    let some : 0 < n = not_at_once n (length text) (λ k. is_blank (get_or text k 0)) long c.without_blanks-text.ensures.begins behind in
    rw c.split_at.ensures.front (front_word text n some within front)
