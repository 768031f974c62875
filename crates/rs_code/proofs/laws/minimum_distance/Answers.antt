use Rattle.rs_code.proofs.Distance as Distance
use Rattle.rs_code.proofs.laws.minimum_distance.Goals as goal

pub returns : goal.returns
returns c = let F = c.field_laws.ensures in Distance.minimum_distance F
