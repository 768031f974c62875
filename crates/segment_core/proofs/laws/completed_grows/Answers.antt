use Rattle.std.proofs.Common.{[]}
use Rattle.segment_core.proofs.Completed.{completed_after-append}
use Rattle.segment_core.proofs.laws.completed_grows.Goals as goal

pub returns : goal.returns
returns c = completed_after-append []
