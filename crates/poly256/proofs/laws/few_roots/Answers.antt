use Rattle.poly256.proofs.Roots as Roots
use Rattle.poly256.proofs.laws.few_roots.Goals as goal

pub returns : goal.returns
returns c = let F = c.field_laws.ensures in Roots.few_roots F
