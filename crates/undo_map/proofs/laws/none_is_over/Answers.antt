use Rattle.undo_map.proofs.OverLemmas.{none-is-over}
use Rattle.undo_map.proofs.laws.none_is_over.Goals as goal

pub returns : goal.returns
returns g c = none-is-over
