use Rattle.picture_core.proofs.PicturesCounted.{live_counted}
use Rattle.picture_core.proofs.laws.store_is_bounded.Goals as goal

pub returns : goal.returns
returns c = live_counted
