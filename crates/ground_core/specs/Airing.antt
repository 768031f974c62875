-- What each fill of a frame airs, by the history before it.
use Rattle.std.specs.Prelude.{ℕ, ◌-◌, Bool, true, false, not, ◌&&◌, nat_lt, nat_le, List, [], ◌∷◌}
use Rattle.std.specs.Prelude.{if◌then◌else◌, ◌++◌, map, filter, flat_map, sum_by}
use Rattle.std.specs.List.{list_any}
use Rattle.life_table.specs.LifeTable.{LifeTable}
use Rattle.uplink_frame.specs.declared.station.StationId.{StationId}
use Rattle.uplink_frame.specs.Station.{header_of}
use Rattle.uplink_frame.specs.UplinkFrame.{fisb_frame, payload_of}
use Rattle.picture_core.specs.Key.{Key, same_key}
use Rattle.uplink_frame.specs.UplinkFrame.{frame_room}
use Rattle.ground_core.specs.Item.{Item, Segment, segments_of, same_segment, room_of, body_of}
use Rattle.ground_core.specs.Item.{end_of}
use Rattle.ground_core.specs.History.{Event, accepted, fill, items, new_items}

-- an item is live before the end of its life, while for one of its keys no later item has that key
abbrev pub has_key : Key → Item → Bool
has_key key item = list_any (λ entry. same_key key entry.key) item.weather.entries

abbrev pub is_newest_for : List Item → Item → Key → Bool
is_newest_for all item key =
    not (list_any (λ other. nat_lt item.serial other.serial && has_key key other) all)

abbrev pub is_live : List Item → ℕ → Item → Bool
is_live all moment item = nat_lt moment (end_of item.weather)
    && list_any (λ entry. is_newest_for all item entry.key) item.weather.entries

-- a giving or an airing of a segment, at its moment
pub record Touch : Type 0 where
  pub segment : Segment
  pub moment : ℕ
  pub is_airing : Bool

abbrev pub touch : Bool → ℕ → Segment → Touch
touch is_airing moment s = record { segment = s; moment = moment; is_airing = is_airing }

-- of each segment the last touch, at its place in the log
abbrev pub is_touched : List Touch → Segment → Bool
is_touched log s = list_any (λ t. same_segment s t.segment) log

abbrev pub last_touches : List Touch → List Touch
last_touches [] = []
last_touches (t ∷ later) = if is_touched later t.segment then last_touches later
    else t ∷ last_touches later

-- the segments that wait at a moment, in the order in which they are sent
abbrev pub waiting_segments : List Item → List Touch → ℕ → List Segment
waiting_segments all log moment =
    map (λ t. t.segment) (filter (λ t. is_live all moment t.segment.item) (last_touches log))

-- the longest prefix that fits the room
abbrev pub longest_fitting : ℕ → List Segment → List Segment
longest_fitting room [] = []
longest_fitting room (s ∷ more) = if nat_le (room_of s) room
    then s ∷ longest_fitting (room - room_of s) more
    else []

-- what a frame airs at a moment, by the items and by the log of all givings and airings so far
abbrev pub airing : List Item → List Touch → ℕ → List Segment
airing all log moment = longest_fitting frame_room (waiting_segments all log moment)

-- what an event adds to the log
abbrev pub touches : LifeTable → StationId → List Item → List Touch → Event → List Touch
touches table station before log (accepted moment update) =
    map (touch false moment) (flat_map segments_of
    (new_items table station before (accepted moment update)))
touches table station before log (fill moment slot) =
    map (touch true moment) (airing before log moment)

-- every giving and every airing of a segment, in order
abbrev pub log : LifeTable → StationId → List Event → List Touch
log table station [] = []
log table station (event ∷ past) =
    log table station past
    ++ touches table station (items table station past) (log table station past) event

-- a frame that was sent
pub record Frame : Type 0 where
  pub station : StationId
  pub moment : ℕ
  pub slot : ℕ
  pub segments : List Segment

-- the frame of a fill after this history
abbrev pub frame_after : LifeTable → StationId → List Event → ℕ → ℕ → Frame
frame_after table station past moment slot = record {
  station = station;
  moment = moment;
  slot = slot;
  segments = airing (items table station past) (log table station past) moment;
}

-- how many bytes its information frames take, and its payload
abbrev pub used_room : Frame → ℕ
used_room frame = sum_by room_of frame.segments

abbrev pub frame_payload : Frame → List ℕ
frame_payload frame = payload_of (header_of frame.station frame.slot)
    (map (λ s. fisb_frame (body_of s)) frame.segments)
