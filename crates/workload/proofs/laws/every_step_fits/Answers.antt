-- Part by part.
use Rattle.workload.proofs.laws.every_step_fits.Goals as goal
use Rattle.workload.proofs.Fits.{fits-workload}

pub returns : goal.returns
returns c = fits-workload
