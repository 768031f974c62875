use Rattle.picture_core.proofs.PicturesForgotten.{live_entries-later, store-forgets, store-later}
use Rattle.picture_core.proofs.laws.store_may_forget.Goals as goal

pub returns-clause-later : goal.returns-clause-later
returns-clause-later c = store-later

pub returns-clause-forgets : goal.returns-clause-forgets
returns-clause-forgets c = store-forgets

pub returns-clause-same : goal.returns-clause-same
returns-clause-same c = live_entries-later
