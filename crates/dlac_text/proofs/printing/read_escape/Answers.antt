use Rattle.std.proofs.Common.{lit<, None}
use Rattle.std.proofs.lemmas.Str.Pattern.{strip_prefix_char}
use Rattle.dlac_text.proofs.PlainLemmas.{text_of_plain-none}
use Rattle.dlac_text.proofs.printing.read_escape.Goals as goal

pub returns-clause-shown : goal.returns-clause-shown
returns-clause-shown c =
    let after = c.args.after.now in
    text_of_plain-none after (strip_prefix_char 110 after None c.in_default.ensures.cases (lit< tt)) (strip_prefix_char 122 after None c.in_default-strip_prefix.ensures.cases (lit< tt))
