use Rattle.rs_code.proofs.Functions as Functions
use Rattle.rs_code.proofs.laws.one_encoded.Goals as goal

pub returns : goal.returns
returns c = let F = c.field_laws.ensures in Functions.one_encoded F c.degree_laws.ensures
