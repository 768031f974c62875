use Rattle.undo_map.proofs.OverLemmas.{over-placed}
use Rattle.undo_map.proofs.laws.others_have_places.Goals as goal

pub returns : goal.returns
returns g c = over-placed g.K.Ord.cmp g.met.K.Ord.total
