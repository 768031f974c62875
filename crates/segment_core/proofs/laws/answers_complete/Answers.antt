use Rattle.segment_core.proofs.Bounded.{answers-complete}
use Rattle.segment_core.proofs.laws.answers_complete.Goals as goal

pub returns : goal.returns
returns c = answers-complete
