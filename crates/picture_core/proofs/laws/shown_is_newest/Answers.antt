use Rattle.picture_core.proofs.PicturesShown.{shown_at-is, shown_at-some}
use Rattle.picture_core.proofs.PicturesStep.{shown_at-append}
use Rattle.picture_core.proofs.laws.shown_is_newest.Goals as goal

pub returns-clause-is : goal.returns-clause-is
returns-clause-is c = shown_at-is

pub returns-clause-some : goal.returns-clause-some
returns-clause-some c = shown_at-some

pub returns-clause-append : goal.returns-clause-append
returns-clause-append c = shown_at-append
