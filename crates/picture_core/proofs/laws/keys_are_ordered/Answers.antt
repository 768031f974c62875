use Rattle.picture_core.proofs.Keys.{key_total, is_eq-key_cmp, same_key-Decides}
use Rattle.picture_core.proofs.laws.keys_are_ordered.Goals as goal

pub returns-clause-total : goal.returns-clause-total
returns-clause-total c = key_total

pub returns-clause-same : goal.returns-clause-same
returns-clause-same c = same_key-Decides

pub returns-clause-agrees : goal.returns-clause-agrees
returns-clause-agrees c = is_eq-key_cmp
