-- What arrives of files, and the payloads that become whole by it. What arrived first stands first.
use Rattle.std.specs.Prelude.{ℕ, Bool, false, not, ◌&&◌, ◌==◌, if◌then◌else◌, List, [], ◌∷◌, ◌++◌}
use Rattle.std.specs.Prelude.{filter, find}
use Rattle.std.specs.Prelude.{flat_map, filter_map, Option, Some, None}
use Rattle.std.specs.List.{list_any, list_all, range_with_len}
use Rattle.apdu_core.specs.declared.apdu.Seg.{Seg}
use Rattle.uplink_frame.specs.declared.station.StationId.{StationId}
use Rattle.uplink_frame.specs.Station.{same_station}

-- an APDU that counts: from which station, and what it is a part of
pub record Arrival : Type 0 where
  pub station : StationId
  pub product : ℕ
  pub version : ℕ
  pub segmentation : Option Seg
  pub payload : List ℕ

-- a file is named by station, product, version, file number and count
abbrev pub same_file : Arrival → Seg → Arrival → Seg → Bool
same_file a s b t =
    same_station a.station b.station && (a.product == b.product) && (a.version == b.version)
    && (s.file == t.file) && (s.count == t.count)

abbrev pub is_piece : Arrival → Seg → ℕ → Arrival → Option Seg → Bool
is_piece a s number b None = false
is_piece a s number b (Some t) = same_file a s b t && (t.number == number)

-- the first arrival of this number of the file
abbrev pub first_piece : List Arrival → Arrival → Seg → ℕ → Option Arrival
first_piece before a s number = find (λ b. is_piece a s number b b.segmentation) before

abbrev pub has_piece : List Arrival → Arrival → Seg → ℕ → Bool
has_piece before a s number = list_any (λ b. is_piece a s number b b.segmentation) before

abbrev pub other_numbers : Seg → List ℕ
other_numbers s = filter (λ number. not (number == s.number)) (range_with_len 1 s.count)

abbrev pub bytes_of_piece : Option Arrival → List ℕ
bytes_of_piece None = []
bytes_of_piece (Some b) = b.payload

-- the first pieces of the file in the order of their numbers
abbrev pub joined_payload : List Arrival → Arrival → Seg → List ℕ
joined_payload arrived a s =
    flat_map (λ number. bytes_of_piece (first_piece arrived a s number)) (range_with_len 1 s.count)

-- a payload that is whole
pub record Whole : Type 0 where
  pub product : ℕ
  pub version : ℕ
  pub payload : List ℕ

abbrev pub whole_with : Arrival → List ℕ → Whole
whole_with a payload = record { product = a.product; version = a.version; payload = payload }

-- An arrival completes its file where its number is new and each other number stands before it; an
-- arrival without segment fields is whole.
abbrev pub completes : List Arrival → Arrival → Option Seg → Option Whole
completes before a None = Some (whole_with a a.payload)
completes before a (Some s) =
    if not (has_piece before a s s.number) && list_all (has_piece before a s) (other_numbers s)
    then Some (whole_with a (joined_payload (before ++ a ∷ []) a s))
    else None

-- the payloads that further arrivals make whole, in the order in which they do
abbrev pub completed_after : List Arrival → List Arrival → List Whole
completed_after before [] = []
completed_after before (a ∷ later) =
    filter_map (completes before a) (a.segmentation ∷ [])
    ++ completed_after (before ++ a ∷ []) later

abbrev pub whole_payloads : List Arrival → List Whole
whole_payloads arrived = completed_after [] arrived
