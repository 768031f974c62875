use Rattle.ground_core.proofs.Starve.{no_starvation}
use Rattle.ground_core.proofs.laws.no_starvation.Goals as goal

pub returns : goal.returns
returns c = no_starvation c.stations_are_told.ensures (record { same = c.keys_are_ordered.ensures.same; agrees = c.keys_are_ordered.ensures.agrees }) c.parts_fit_frames.ensures
