-- The queue in which the names that are held stand by the second from which on their file is stale.
use Rattle.std.specs.Prelude.{ℕ, ◌+◌, List, Option}
use Rattle.undo_map.specs.Ends.{HavePlacesBy, IsQueueOf, Queue}
use Rattle.undo_map.specs.Marked.{Marked}
use Rattle.segment_core.specs.Kept.{KeptPieces}
use Rattle.segment_core.specs.Store.{longest_of}
use Rattle.segment_core.specs.contracts.piece_name.PieceNameOrd.TheImpl as order
use Rattle.segment_core.specs.declared.arrived.Longest.{Longest}
use Rattle.segment_core.specs.declared.piece_name.PieceName.{PieceName}

-- the second from which on the file of a piece is stale
abbrev pub stale_from : Longest → PieceName × Option (List ℕ) → ℕ
stale_from longest piece = piece.0.version + longest_of longest piece.0.product

-- each name that is held stands there, at a second that is no later
abbrev pub PiecesHavePlaces : Longest → List (ℕ × PieceName) → KeptPieces → Type 0
PiecesHavePlaces longest places pieces =
    HavePlacesBy order.ghosts.cmp (stale_from longest) places pieces

-- so it is, at the mark too, and there are no more places than names
abbrev pub IsQueueOfPieces : Longest → Queue PieceName → Marked PieceName (Option (List ℕ)) → Type 0
IsQueueOfPieces longest queue marked =
    IsQueueOf order.ghosts.cmp (stale_from longest) queue marked
