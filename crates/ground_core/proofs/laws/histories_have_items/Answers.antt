use Rattle.ground_core.proofs.Items.{histories-have_items}
use Rattle.ground_core.proofs.laws.histories_have_items.Goals as goal

pub returns : goal.returns
returns c = histories-have_items c.keys_are_ordered.ensures.same c.accepted_is_given.ensures
