use Rattle.segment_core.proofs.Completed.{only_files}
use Rattle.segment_core.proofs.laws.only_files_complete.Goals as goal

pub returns : goal.returns
returns c = only_files c.stations_are_told.ensures
