-- What is kept of the segments that arrived: of each number of a file the first piece, and once the
-- file was whole the number alone.
use Rattle.std.specs.Prelude.{ℕ, ◌≤◌, Bool, ◌&&◌, ◌==◌, if◌then◌else◌, List, [], Option, Some, None}
use Rattle.std.specs.List.{list_all, range_with_len}
use Rattle.std.specs.Map.{lookup}
use Rattle.std.specs.Option.{option_map}
use Rattle.apdu_core.specs.declared.apdu.Seg.{Seg}
use Rattle.uplink_frame.specs.Station.{same_station}
use Rattle.segment_core.specs.Arrival.{Arrival, first_piece, has_piece}
use Rattle.segment_core.specs.declared.piece_name.PieceName.{PieceName}

abbrev pub piece_name : Arrival → Seg → PieceName
piece_name a s = record {
  station = a.station;
  product = a.product;
  version = a.version;
  file = s.file;
  count = s.count;
  number = s.number;
}

-- another segment of the same file
abbrev pub with_number : PieceName → ℕ → PieceName
with_number name number = record {
  station = name.station;
  product = name.product;
  version = name.version;
  file = name.file;
  count = name.count;
  number = number;
}

abbrev pub seg_of_name : PieceName → Seg
seg_of_name name = record { file = name.file; count = name.count; number = name.number }

-- an arrival of this name
abbrev pub arrival_named : PieceName → Arrival
arrival_named name = record {
  station = name.station;
  product = name.product;
  version = name.version;
  segmentation = Some (seg_of_name name);
  payload = [];
}

abbrev pub same_piece : PieceName → PieceName → Bool
same_piece a b =
    same_station a.station b.station && (a.product == b.product) && (a.version == b.version)
    && (a.file == b.file) && (a.count == b.count) && (a.number == b.number)

-- the number is one of the file
abbrev pub IsNumbered : PieceName → Type 0
IsNumbered name = (1 ≤ name.number) × (name.number ≤ name.count)

-- the pieces by their names; of some the number alone
abbrev pub KeptPieces : Type 0
KeptPieces = List (PieceName × Option (List ℕ))

abbrev pub kept_under : KeptPieces → PieceName → Option (Option (List ℕ))
kept_under pieces name = lookup (same_piece name) pieces

-- each number of the file has arrived
abbrev pub was_whole : List Arrival → PieceName → Bool
was_whole taken name =
    list_all (has_piece taken (arrival_named name) (seg_of_name name)) (range_with_len 1 name.count)

abbrev pub kept_piece : Bool → Arrival → Option (List ℕ)
kept_piece is_whole a = if is_whole then None else Some a.payload

-- what is kept under a name, after these arrivals
abbrev pub kept_of : List Arrival → PieceName → Option (Option (List ℕ))
kept_of taken name =
    option_map (kept_piece (was_whole taken name)) (first_piece taken (arrival_named name)
    (seg_of_name name) name.number)
