use Rattle.picture_core.proofs.PicturesChanged.{store_changed}
use Rattle.picture_core.proofs.laws.store_of_changes.Goals as goal

pub returns : goal.returns
returns c = store_changed
