use Rattle.std.proofs.Common.{Some, None, sym}
use Rattle.byte_search.specs.FirstByte.{first_byte}
use Rattle.run_core.proofs.Newlines.{front-newline, back-newline, none-append}
use Rattle.run_core.proofs.input.newline_in_two.Goals as goal

pub returns-in-Some : goal.returns-in-Some
returns-in-Some c =
    let found = first_byte 10 c.args.front.now (Some c.in-Some.end) c.in-Some.ensures in
    sym (front-newline c.in-Some.end c.args.front.now c.args.back.now (sym found))

pub returns-in-Some-memchr : goal.returns-in-Some-memchr
returns-in-Some-memchr c =
    let none = first_byte 10 c.args.front.now None c.in_default.ensures in
    let found = first_byte 10 c.args.back.now (Some c.in-Some-memchr.end) c.in-Some-memchr.ensures in
    sym (back-newline c.in-Some-memchr.end c.args.front.now c.args.back.now (sym none) (sym found))

pub returns-in-None : goal.returns-in-None
returns-in-None c =
    let none = first_byte 10 c.args.front.now None c.in_default.ensures in
    let other = first_byte 10 c.args.back.now None c.in-None.ensures in
    sym (none-append c.args.front.now c.args.back.now (sym none) (sym other))
