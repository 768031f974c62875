use Rattle.script_core.proofs.LineRanges as LineRanges
use Rattle.script_core.proofs.laws.ranges_of_lines.Goals as goal

pub returns : goal.returns
returns c = LineRanges.ranges_of_lines c.shown_texts.ensures
