-- What a segment brings among the pieces that are held.
use Rattle.std.specs.Prelude.{ℕ, Bool, ◌&&◌, ◌==◌, nat_le, if◌then◌else◌, List, [], flat_map}
use Rattle.std.specs.Prelude.{Option, Some, None, is_some}
use Rattle.std.specs.List.{list_all, range_with_len}
use Rattle.apdu_core.specs.declared.apdu.Seg.{Seg}
use Rattle.segment_core.specs.Arrival.{Arrival, other_numbers}
use Rattle.segment_core.specs.Kept.{KeptPieces, kept_under, with_number, piece_name, seg_of_name}
use Rattle.segment_core.specs.Kept.{same_piece}
use Rattle.segment_core.specs.declared.piece_name.PieceName.{PieceName}
use Rattle.segment_core.specs.declared.arrived.Taken.{Taken}
use Rattle.segment_core.specs.declared.arrived.Taken.TheVariants.{Whole, Waits, Again}

abbrev pub is_held : KeptPieces → PieceName → ℕ → Bool
is_held pieces name number = is_some (kept_under pieces (with_number name number))

abbrev pub others_held : KeptPieces → PieceName → Bool
others_held pieces name = list_all (is_held pieces name) (other_numbers (seg_of_name name))

abbrev pub held_bytes : Option (Option (List ℕ)) → List ℕ
held_bytes None = []
held_bytes (Some None) = []
held_bytes (Some (Some bytes)) = bytes

abbrev pub bytes_at : KeptPieces → PieceName → List ℕ → ℕ → List ℕ
bytes_at pieces name payload number =
    if number == name.number then payload
    else held_bytes (kept_under pieces (with_number name number))

-- the pieces of the file in the order of their numbers, with this one
abbrev pub joined_held : KeptPieces → PieceName → List ℕ → List ℕ
joined_held pieces name payload =
    flat_map (bytes_at pieces name payload) (range_with_len 1 name.count)

abbrev pub held_answer : KeptPieces → PieceName → List ℕ → Taken
held_answer pieces name payload = if is_some (kept_under pieces name) then Again
    else (if others_held pieces name then Whole (joined_held pieces name payload) else Waits)

abbrev pub is_number_of : PieceName → PieceName → Bool
is_number_of name other =
    same_piece other (with_number name other.number) && nat_le 1 other.number
    && nat_le other.number name.count

-- what is held under a name, with this segment
abbrev pub held_with : KeptPieces → PieceName → List ℕ → PieceName → Option (Option (List ℕ))
held_with pieces name payload other =
    if is_some (kept_under pieces name) then kept_under pieces other
    else (if others_held pieces name
    then (if is_number_of name other then Some None else kept_under pieces other)
    else (if same_piece other name then Some (Some payload) else kept_under pieces other))

-- what an arrival brings, and what is held under a name with it; without segment fields it is
-- whole, and nothing is held of it
abbrev pub arrival_answer : KeptPieces → Arrival → Option Seg → Taken
arrival_answer pieces a None = Whole a.payload
arrival_answer pieces a (Some s) = held_answer pieces (piece_name a s) a.payload

abbrev pub held_after : KeptPieces → Arrival → Option Seg → PieceName → Option (Option (List ℕ))
held_after pieces a None other = kept_under pieces other
held_after pieces a (Some s) other = held_with pieces (piece_name a s) a.payload other
