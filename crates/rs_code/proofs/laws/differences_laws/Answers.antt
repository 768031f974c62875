use Rattle.rs_code.proofs.Differences.{differences-same, differences-window}
use Rattle.rs_code.proofs.laws.differences_laws.Goals as goal

pub returns : goal.returns
returns c = record { none = differences-same; window = differences-window }
