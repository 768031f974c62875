use Rattle.picture_core.proofs.Pictures.{IsRising-put, kept_at-put_other}
use Rattle.picture_core.proofs.PicturesStep.{kept_at-put}
use Rattle.picture_core.proofs.laws.put_keeps_newer.Goals as goal

pub returns-clause-own : goal.returns-clause-own
returns-clause-own c = kept_at-put

pub returns-clause-other : goal.returns-clause-other
returns-clause-other c = λ e kept k. kept_at-put_other e kept k

pub returns-clause-rising : goal.returns-clause-rising
returns-clause-rising c = IsRising-put
