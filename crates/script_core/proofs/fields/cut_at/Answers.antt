use Rattle.std.proofs.Common.{Some, None}
use Rattle.byte_search.specs.FirstByte.{first_byte}
use Rattle.script_core.proofs.ByteCuts.{cut_found, cut_none, front_found, behind_found, front_none, behind_none}
use Rattle.script_core.proofs.fields.cut_at.Goals as goal

pub returns-in-Some-clause-parts : goal.returns-in-Some-clause-parts
returns-in-Some-clause-parts c =
    let is_found = first_byte c.args.separator c.args.bytes.now (Some c.in-Some.end) c.in-Some.ensures in
    cut_found c.args.separator c.in-Some.end _ _ _ _ is_found c.split_at.ensures.front c.split_at.ensures.back c.split_at-in-Some.ensures.back

pub returns-in-Some-clause-front : goal.returns-in-Some-clause-front
returns-in-Some-clause-front c =
    let is_found = first_byte c.args.separator c.args.bytes.now (Some c.in-Some.end) c.in-Some.ensures in
    front_found c.args.separator c.in-Some.end _ _ is_found c.split_at.ensures.front

pub returns-in-Some-clause-behind : goal.returns-in-Some-clause-behind
returns-in-Some-clause-behind c =
    let is_found = first_byte c.args.separator c.args.bytes.now (Some c.in-Some.end) c.in-Some.ensures in
    behind_found c.args.separator c.in-Some.end _ _ _ is_found c.split_at.ensures.back c.split_at-in-Some.ensures.back

pub returns-in-None-clause-parts : goal.returns-in-None-clause-parts
returns-in-None-clause-parts c =
    cut_none c.args.separator _ (first_byte c.args.separator c.args.bytes.now None c.in-None.ensures)

pub returns-in-None-clause-front : goal.returns-in-None-clause-front
returns-in-None-clause-front c =
    front_none c.args.separator _ (first_byte c.args.separator c.args.bytes.now None c.in-None.ensures)

pub returns-in-None-clause-behind : goal.returns-in-None-clause-behind
returns-in-None-clause-behind c =
    behind_none c.args.separator _ (first_byte c.args.separator c.args.bytes.now None c.in-None.ensures)
