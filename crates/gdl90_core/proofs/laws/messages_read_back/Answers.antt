use Rattle.gdl90_core.proofs.Readings as readings
use Rattle.gdl90_core.proofs.laws.messages_read_back.Goals as goal

pub returns : goal.returns
returns c = readings.messages_read_back
