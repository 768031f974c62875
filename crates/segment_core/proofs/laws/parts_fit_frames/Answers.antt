use Rattle.segment_core.proofs.Parts.{is_part}
use Rattle.segment_core.proofs.laws.parts_fit_frames.Goals as goal

pub returns : goal.returns
returns c = is_part
