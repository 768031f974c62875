use Rattle.undo_map.proofs.QueueLemmas.{queues-stay}
use Rattle.undo_map.proofs.laws.queues_stay.Goals as goal

pub returns : goal.returns
returns g c = queues-stay
