-- A place is brought forward; and without that the place that was there is soon enough.
use Rattle.std.proofs.Common.{arith}
use Rattle.undo_map.specs.Ends.{all_places}
use Rattle.undo_map.proofs.EndLemmas.{has-later}
use Rattle.undo_map.proofs.lasting.place_sooner.Goals as goal

pub returns-in_ok-bring_forward-clause-placed : goal.returns-in_ok-bring_forward-clause-placed
returns-in_ok-bring_forward-clause-placed g c = λ k same some. c.in_ok-bring_forward.ensures.sooner k c.args.by same some

pub returns-else-second-by-clause-placed : goal.returns-else-second-by-clause-placed
returns-else-second-by-clause-placed g c = λ k same some.
    has-later g.K.Ord.cmp (all_places c.args.ends.now) k c.args.by c.args.second (omega arith) some
