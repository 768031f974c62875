use Rattle.rs_code.proofs.Nearest as Nearest
use Rattle.rs_code.proofs.laws.one_nearest.Goals as goal

pub returns : goal.returns
returns c = let F = c.field_laws.ensures in Nearest.one_nearest F
