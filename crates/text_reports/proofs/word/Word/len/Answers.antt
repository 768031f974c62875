use Rattle.std.proofs.lemmas.Iterator.{YieldsList-from_chars}
use Rattle.std.proofs.lemmas.Iterator.Consumers.{count_from_yields_List}
use Rattle.text_reports.proofs.word.Word.len.Goals as goal

pub returns-clause-count : goal.returns-clause-count
returns-clause-count c =
    let counted = count_from_yields_List c.chars.result c.count.result c.count.ensures.ran (YieldsList-from_chars c.as_str.result.now c.as_str.utf8 c.chars.ensures.rest) in
    rw (← c.self.view_is, ← c.as_str.ensures.value) counted
