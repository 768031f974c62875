use Rattle.fisb_link.proofs.StillHeard.{hearings-stay}
use Rattle.fisb_link.proofs.laws.hearings_stay.Goals as goal

pub returns : goal.returns
returns c = hearings-stay
