-- Small scenes, computed by the definitions alone: what literal arrivals make whole.
use Rattle.std.proofs.Common.{◌≡◌, ℕ, true, List, [], ◌∷◌, Some, None, refl}
use Rattle.uplink_frame.specs.declared.station.StationId.{StationId}
use Rattle.uplink_frame.specs.Station.{no_station}
use Rattle.segment_core.specs.Arrival.{Arrival, Whole, whole_payloads}

abbrev other_station : StationId
other_station = record { lat = 7; lon = 9; position_valid = true; site = 3 }

-- a text's segment of file 5
abbrev from : StationId → ℕ → ℕ → ℕ → List ℕ → Arrival
from station version count number bytes = record {
  station = station;
  product = 413;
  version = version;
  segmentation = Some (record { file = 5; count = count; number = number });
  payload = bytes;
}

abbrev piece : ℕ → ℕ → ℕ → List ℕ → Arrival
piece = from no_station

abbrev whole : ℕ → List ℕ → Whole
whole version bytes = record { product = 413; version = version; payload = bytes }

-- the second segment first, and the first one twice
pub two_segments : whole_payloads (piece 100 2 2 (0xBB ∷ []) ∷ piece 100 2 1 (0xAA ∷ []) ∷ piece 100 2 1 (0xAA ∷ []) ∷ [])
    ≡ whole 100 (0xAA ∷ 0xBB ∷ []) ∷ []
two_segments = refl

-- half of a newer version changes nothing of the older, and is not whole
pub newer_half :
    whole_payloads (piece 100 2 1 (0xAA ∷ []) ∷ piece 160 2 2 (0xDD ∷ []) ∷ piece 100 2 2 (0xBB ∷ []) ∷ [])
    ≡ whole 100 (0xAA ∷ 0xBB ∷ []) ∷ []
newer_half = refl

-- two files of one number, of two versions, are joined apart
pub two_versions :
    whole_payloads (piece 100 2 1 (0xAA ∷ []) ∷ piece 160 2 2 (0xDD ∷ []) ∷ piece 160 2 1 (0xCC ∷ []) ∷ piece 100 2 2 (0xBB ∷ [])
    ∷ [])
    ≡ whole 160 (0xCC ∷ 0xDD ∷ []) ∷ whole 100 (0xAA ∷ 0xBB ∷ []) ∷ []
two_versions = refl

-- nor do pieces of two counts, or of two stations, join
pub two_counts : whole_payloads (piece 100 3 2 (0xBB ∷ []) ∷ piece 100 2 1 (0xAA ∷ []) ∷ []) ≡ []
two_counts = refl

pub two_stations : whole_payloads (piece 100 2 1 (0xAA ∷ []) ∷ from other_station 100 2 2 (0xBB ∷ []) ∷ []) ≡ []
two_stations = refl

-- of a number that arrives with other bytes later, the first bytes stay
pub other_bytes : whole_payloads (piece 100 2 2 (0xBB ∷ []) ∷ piece 100 2 2 (0xCC ∷ []) ∷ piece 100 2 1 (0xAA ∷ []) ∷ [])
    ≡ whole 100 (0xAA ∷ 0xBB ∷ []) ∷ []
other_bytes = refl

-- a payload without segment fields is whole each time that it arrives
abbrev whole_arrival : Arrival
whole_arrival = record { station = no_station; product = 413; version = 100; segmentation = None; payload = 0xEE ∷ [] }

pub whole_again : whole_payloads (whole_arrival ∷ whole_arrival ∷ []) ≡ whole 100 (0xEE ∷ []) ∷ whole 100 (0xEE ∷ []) ∷ []
whole_again = refl
