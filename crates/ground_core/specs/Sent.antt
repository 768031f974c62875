-- What is known of the items and of the frames of a broadcast.
use Rattle.std.specs.Prelude.{◌≡◌, ◌+◌, ◌<◌, ◌≤◌, ◌↔◌, true, false, List, ◌∷◌, length, map}
use Rattle.bit_fields.specs.Bits.{AreBytes}
use Rattle.list_members.specs.Membership.{IsIn}
use Rattle.fisb_time.specs.Moment.{IsMoment}
use Rattle.life_table.specs.LifeTable.{LifeTable}
use Rattle.life_table.specs.Rules.{IsTable}
use Rattle.uplink_frame.specs.declared.station.StationId.{StationId}
use Rattle.uplink_frame.specs.Station.{header_of, same_station, FitsStation}
use Rattle.uplink_frame.specs.UplinkFrame.{InformationFrame, frame_room, payload_length, fisb_frame}
use Rattle.uplink_frame.specs.UplinkFrame.{spelled_frames, header_in, information_frames}
use Rattle.segment_core.specs.File.{parts_of}
use Rattle.ground_core.specs.Item.{Item, Segment, same_segment, segments_of, file_of, body_of}
use Rattle.ground_core.specs.Item.{end_of}
use Rattle.ground_core.specs.History.{items}
use Rattle.ground_core.specs.Airing.{Frame, used_room, frame_payload}
use Rattle.ground_core.specs.Broadcast.{StationEvent, IsBroadcast, IsHistory, history_of, frames}
use Rattle.ground_core.specs.Broadcast.{all_items}

-- each station has a history, and the items of all stations are those of each
pub record AreOfStations (table : LifeTable) (broadcast : List StationEvent) : Type 0 where
  pub histories : (station : StationId) → IsHistory table station (history_of station broadcast)
  pub of_station : (i : Item) → IsIn i (all_items table broadcast)
      → IsIn i (items table i.station (history_of i.station broadcast))
  pub of_all : (i : Item) → IsIn i (items table i.station (history_of i.station broadcast))
      → IsIn i (all_items table broadcast)

abbrev pub ItemsAreOfStations : Type 0
ItemsAreOfStations = (table : LifeTable) (broadcast : List StationEvent)
    → IsBroadcast table broadcast → AreOfStations table broadcast

-- an event is one more in the history of its station, and in that of no other
pub record HistoryGrows (b : StationEvent) (past : List StationEvent) : Type 0 where
  pub own : history_of b.station (b ∷ past) ≡ b.event ∷ history_of b.station past
  pub others : (station : StationId) → same_station b.station station ≡ false
      → history_of station (b ∷ past) ≡ history_of station past

abbrev pub HistoriesGrow : Type 0
HistoriesGrow = (b : StationEvent) (past : List StationEvent) → HistoryGrows b past

-- a segment of an item, numbered as one of the parts of its file
pub record IsSegmentOf (item : Item) (s : Segment) : Type 0 where
  pub item_is : s.item ≡ item
  pub least : 1 ≤ s.number
  pub most : s.number ≤ length (parts_of (file_of item))

-- a segment is the same as itself
abbrev pub SegmentsAreSame : Type 0
SegmentsAreSame = (s : Segment) → same_segment s s ≡ true

abbrev pub SegmentsAreOfItems : Type 0
SegmentsAreOfItems = (item : Item) (s : Segment) → IsIn s (segments_of item) ↔ IsSegmentOf item s

-- a segment that was aired at a moment is one of an item of the frame's station that lived then
pub record IsAired (all : List Item) (frame : Frame) (s : Segment) : Type 0 where
  pub item_in : IsIn s.item all
  pub of_item : IsIn s (segments_of s.item)
  pub of_station : s.item.station ≡ frame.station
  pub not_ahead : s.item.weather.version ≤ frame.moment + 60
  pub live : frame.moment < end_of s.item.weather

-- the FIS-B frames of the bodies of a frame's segments
abbrev pub fisb_frames_of : Frame → List InformationFrame
fisb_frames_of frame = map (λ s. fisb_frame (body_of s)) frame.segments

-- what the frame takes is the length of its FIS-B frames, which fit; its payload of 432 bytes reads
-- back as its header and them
pub record IsFrame (all : List Item) (frame : Frame) : Type 0 where
  pub station : FitsStation frame.station
  pub slot : frame.slot < 32
  pub moment : IsMoment frame.moment
  pub aired : (s : Segment) → IsIn s frame.segments → IsAired all frame s
  pub fits : used_room frame ≤ frame_room
  pub spelled : used_room frame ≡ length (spelled_frames (fisb_frames_of frame))
  pub size : length (frame_payload frame) ≡ payload_length
  pub bytes : AreBytes (frame_payload frame)
  pub header_back : header_in (frame_payload frame) ≡ header_of frame.station frame.slot
  pub frames_back : information_frames (frame_payload frame) ≡ fisb_frames_of frame

abbrev pub FramesReadBack : Type 0
FramesReadBack = (table : LifeTable) (broadcast : List StationEvent) (frame : Frame) → IsTable table
    → IsBroadcast table broadcast
    → IsIn frame (frames table broadcast) → IsFrame (all_items table broadcast) frame
