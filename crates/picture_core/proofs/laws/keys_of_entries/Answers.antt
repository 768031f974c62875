use Rattle.picture_core.proofs.KeysRising.{IsRising-keys_of, IsIn-keys_of, entry_of_key}
use Rattle.picture_core.proofs.laws.keys_of_entries.Goals as goal

pub returns-clause-rising : goal.returns-clause-rising
returns-clause-rising c = IsRising-keys_of

pub returns-clause-has : goal.returns-clause-has
returns-clause-has c = IsIn-keys_of

pub returns-clause-only : goal.returns-clause-only
returns-clause-only c = entry_of_key
