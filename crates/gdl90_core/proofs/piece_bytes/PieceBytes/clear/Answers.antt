use Rattle.std.proofs.Common.{sym}
use Rattle.gdl90_core.proofs.Keeping.{remainder-nil}
use Rattle.gdl90_core.proofs.piece_bytes.PieceBytes.clear.Goals as goal

pub returns : goal.returns
returns c = record { bytes_are = c.clear.ensures; remainder_is = sym remainder-nil }
