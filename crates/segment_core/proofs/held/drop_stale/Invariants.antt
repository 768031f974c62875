-- What lives is what lived at first, and each name that is held has a place.
use Rattle.std.proofs.Common.{◌≡◌, ◌≤◌, length}
use Rattle.std.specs.Prelude.{None}
use Rattle.undo_map.specs.Ends.{due_places}
use Rattle.segment_core.specs.Ends.{PiecesHavePlaces}
use Rattle.segment_core.specs.Store.{live_pieces}
use Rattle.segment_core.proofs.held.drop_stale.Given as goal

abbrev pub invariant-loop-name : goal.invariant-loop-name
invariant-loop-name l = record {
  pieces :
      live_pieces l.longest l.moment l.pieces.entries ≡ live_pieces l.longest l.moment l.initial.pieces.entries;
  mark : l.pieces.mark ≡ None;
  placed : PiecesHavePlaces l.longest l.ends.places l.pieces.entries;
  few : length l.ends.places ≤ length l.pieces.entries;
  added : l.ends.added ≡ l.initial.ends.added;
}

abbrev pub decreases-loop-name : goal.decreases-loop-name
decreases-loop-name l = due_places l.moment l.ends.places
