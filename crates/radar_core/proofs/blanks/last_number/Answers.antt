use Rattle.std.proofs.Common.{length, sym, arith}
use Rattle.std.proofs.lemmas.Grind.{get_or_head, get_or_tail}
use Rattle.radar_core.proofs.blanks.last_number.Goals as goal

pub returns-then-count-eq0 : goal.returns-then-count-eq0
returns-then-count-eq0 c = sym (get_or_head c.args.base c.args.further.now (length c.args.further.now) 0 (omega arith))

pub returns : goal.returns
returns c = sym (get_or_tail c.args.base c.args.further.now (length c.args.further.now) 0 (omega arith))
