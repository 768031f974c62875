use Rattle.gdl90_core.proofs.Readings as readings
use Rattle.gdl90_core.proofs.laws.one_reading.Goals as goal

pub returns : goal.returns
returns c = readings.one_reading
