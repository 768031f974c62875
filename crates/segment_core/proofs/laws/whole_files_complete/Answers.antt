use Rattle.segment_core.proofs.Completed.{whole_files}
use Rattle.segment_core.proofs.laws.whole_files_complete.Goals as goal

pub returns : goal.returns
returns c = whole_files
