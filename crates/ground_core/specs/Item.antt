-- What a ground was given, and the segments in which it is sent.
use Rattle.std.specs.Prelude.{ℕ, ◌+◌, Bool, ◌&&◌, ◌==◌, List, map, length, Option, unwrap_or}
use Rattle.fisb_time.specs.declared.form.TimeForm.{TimeForm}
use Rattle.apdu_core.specs.Apdu.{apdu_bytes, header_length}
use Rattle.uplink_frame.specs.declared.station.StationId.{StationId}
use Rattle.uplink_frame.specs.Station.{same_station}
use Rattle.segment_core.specs.File.{File, numbers_of, part_of, apdu_of_segment}
use Rattle.segment_core.specs.File as files
use Rattle.picture_core.specs.Entry.{Entry}

-- what an update says as one item: entries, and the payload that carries them
pub record Weather : Type 0 where
  pub product : ℕ
  pub form : TimeForm
  pub version : ℕ
  pub life : ℕ
  pub entries : List Entry
  pub payload : List ℕ

-- Weather that a station was given. Its serial is the number of the station's items before it; one
-- that is sent in segments has a file number.
pub record Item : Type 0 where
  pub station : StationId
  pub serial : ℕ
  pub number : Option ℕ
  pub weather : Weather

abbrev pub is_segmented : Weather → Bool
is_segmented w = files.is_segmented w.form w.payload

-- the second at which its life ends
abbrev pub end_of : Weather → ℕ
end_of w = w.version + w.life

-- the file that is sent of an item; one that is sent whole shows no number
abbrev pub file_of : Item → File
file_of item = record {
  product = item.weather.product;
  form = item.weather.form;
  version = item.weather.version;
  number = unwrap_or item.number 0;
  payload = item.weather.payload;
}

-- a segment of an item, numbered from 1
pub record Segment : Type 0 where
  pub item : Item
  pub number : ℕ

abbrev pub segment_of : Item → ℕ → Segment
segment_of item number = record { item = item; number = number }

abbrev pub segments_of : Item → List Segment
segments_of item = map (segment_of item) (numbers_of (file_of item))

-- two segments are one by station, item and number
abbrev pub same_item : Item → Item → Bool
same_item a b = same_station a.station b.station && (a.serial == b.serial)

abbrev pub same_segment : Segment → Segment → Bool
same_segment a b = same_item a.item b.item && (a.number == b.number)

-- the body in which a segment is sent
abbrev pub body_of : Segment → List ℕ
body_of s = apdu_bytes (apdu_of_segment (file_of s.item) s.number)

-- how many bytes it takes of a frame: the header of its body, its part of the payload, and two
-- bytes more
abbrev pub room_of : Segment → ℕ
room_of s = header_length s.item.weather.form (is_segmented s.item.weather)
    + length (part_of (file_of s.item) s.number) + 2
