use Rattle.picture_core.proofs.PicturesStep.{same_pictures, same_step}
use Rattle.picture_core.proofs.laws.same_pictures.Goals as goal

pub returns-clause-step : goal.returns-clause-step
returns-clause-step c = same_step

pub returns-clause-pictures : goal.returns-clause-pictures
returns-clause-pictures c = same_pictures
