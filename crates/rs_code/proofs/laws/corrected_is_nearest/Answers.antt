use Rattle.rs_code.proofs.Functions as Functions
use Rattle.rs_code.proofs.laws.corrected_is_nearest.Goals as goal

pub returns : goal.returns
returns c = let F = c.field_laws.ensures in Functions.is_corrected F
