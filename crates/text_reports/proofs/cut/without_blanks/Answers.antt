use Rattle.text_reports.proofs.Cutting.{words_behind_blanks, cut_behind_blanks}
use Rattle.text_reports.proofs.cut.without_blanks.Goals as goal

pub split_at-requires : goal.split_at-requires
split_at-requires c =
    let front = rw c.as_bytes.ensures.value at c.front_len.ensures.front in
    let within = rw c.as_bytes.ensures.value at c.front_len.ensures.within in
    cut_behind_blanks c.args.text.now c.front_len.result c.utf8.text within front

pub returns-clause-words : goal.returns-clause-words
returns-clause-words c =
    let front = rw c.as_bytes.ensures.value at c.front_len.ensures.front in
    rw c.split_at.ensures.back (words_behind_blanks c.args.text.now c.front_len.result front)
