use Rattle.std.proofs.Common.{is_some, ap, sym, ◌∙◌}
use Rattle.byte_search.specs.FirstByte.{first_byte}
use Rattle.list_members.specs.Tests.{none_from}
use Rattle.run_core.specs.Reading.{newline_in}
use Rattle.run_core.proofs.input.has_newline.Goals as goal

pub returns : goal.returns
returns c = λ none.
    let found = first_byte 10 c.args.bytes.now c.memchr.result c.memchr.ensures in
    none_from (newline_in c.args.bytes.now) (ap is_some (sym found) ∙ sym c.is_some.ensures ∙ none)
