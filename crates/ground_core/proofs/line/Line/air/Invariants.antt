use Rattle.picture_core.specs.Key.{Key}
use Rattle.ground_core.specs.Piece.{live_by, IsLastOrEnded, ArePlaced}
use Rattle.ground_core.specs.Views.{latest_at, pieces_in}
use Rattle.ground_core.proofs.Turns.{IsTurned}
use Rattle.ground_core.proofs.line.Line.air.Given as goal

abbrev pub invariant-loop-turn : goal.invariant-loop-turn
invariant-loop-turn l = record {
  turned : IsTurned (live_by (latest_at l.fn.newest) l.moment) (pieces_in l.fn.self) l._turn l.frames (pieces_in l.self) l.aired;
  placed : ArePlaced (latest_at l.fn.newest) (pieces_in l.fn.self) → ArePlaced (latest_at l.newest) (pieces_in l.self);
  kept : (key : Key) → IsLastOrEnded l.moment (latest_at l.fn.newest key) (latest_at l.newest key);
}
