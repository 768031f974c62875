use Rattle.radar_core.proofs.Partition.{is_grouping}
use Rattle.radar_core.proofs.laws.groups_are_records.Goals as goal

pub returns : goal.returns
returns c = is_grouping
