use Rattle.segment_core.proofs.Completed.{files}
use Rattle.segment_core.proofs.laws.files_complete.Goals as goal

pub returns : goal.returns
returns c = files c.stations_are_told.ensures
