-- The laws of headers and information frames.
use Rattle.std.specs.Prelude.{◌≡◌, ℕ, ◌≤◌, ◌+◌, ◌<◌, ◌↔◌, IsTrue, true, List, length, drop, map}
use Rattle.std.specs.Prelude.{sum_by, All}
use Rattle.bit_fields.specs.Bits.{AreBytes}
use Rattle.uplink_frame.specs.declared.header.UplinkHeader.{UplinkHeader}
use Rattle.uplink_frame.specs.UplinkFrame.{InformationFrame, FitsFrame, FitsHeader, header_in}
use Rattle.uplink_frame.specs.UplinkFrame.{information_frames, spelled_frames, payload_of}
use Rattle.uplink_frame.specs.UplinkFrame.{fisb_frame}
use Rattle.uplink_frame.specs.UplinkFrame.{frame_room, payload_length}
use Rattle.uplink_frame.specs.declared.station.StationId.{StationId}
use Rattle.uplink_frame.specs.Station.{station_of, header_of, same_station, FitsStation}
use Rattle.uplink_frame.specs.Spelling.{SpellsFrames}

-- what a payload of this header and of these frames reads back as
pub record ReadsBack (h : UplinkHeader) (frames : List InformationFrame) : Type 0 where
  pub header_back : header_in (payload_of h frames) ≡ h
  pub frames_back : information_frames (payload_of h frames) ≡ frames
  pub size : length (payload_of h frames) ≡ payload_length
  pub bytes : AreBytes (payload_of h frames)

-- a header and frames that fit read back from their payload
abbrev pub PayloadReadsBack : Type 0
PayloadReadsBack = (h : UplinkHeader) (frames : List InformationFrame)
    → FitsHeader h → All FitsFrame frames → All (λ frame. AreBytes frame.body) frames
    → length (spelled_frames frames) ≤ frame_room → ReadsBack h frames

-- the information frames of a payload are those that its bytes spell from byte 8 on, and no others
abbrev pub FramesAreSpelled : Type 0
FramesAreSpelled = (payload : List ℕ) (frames : List InformationFrame)
    → AreBytes payload → length payload ≡ payload_length
    → (information_frames payload ≡ frames) ↔ SpellsFrames frames (drop 8 payload)

-- the body of a FIS-B frame: some bytes, as many as a length of nine bits can tell
pub record IsBody (body : List ℕ) : Type 0 where
  pub some : 0 < length body
  pub most : length body < 512
  pub bytes : AreBytes body

-- what FIS-B frames of these bodies take: two bytes for each, and its body
abbrev pub frames_size : List (List ℕ) → ℕ
frames_size bodies = sum_by (λ body. 2 + length body) bodies

-- what a station's payload of FIS-B frames of these bodies reads back as
pub record BodiesReadBack (station : StationId) (slot : ℕ) (bodies : List (List ℕ)) : Type 0 where
  pub payload : ReadsBack (header_of station slot) (map fisb_frame bodies)
  pub station_back :
      station_of (header_in (payload_of (header_of station slot) (map fisb_frame bodies))) ≡ station
  pub slot_back : (header_in (payload_of (header_of station slot) (map fisb_frame bodies))).slot
      ≡ slot
  pub valid :
      (header_in (payload_of (header_of station slot) (map fisb_frame bodies))).app_valid ≡ true

-- bodies that fit a payload read back from that of a station, in a slot from 0 to 31
abbrev pub BodiesComeBack : Type 0
BodiesComeBack = (station : StationId) (slot : ℕ) (bodies : List (List ℕ))
    → FitsStation station → slot < 32 → All IsBody bodies → frames_size bodies ≤ frame_room
    → BodiesReadBack station slot bodies

-- the bytes of FIS-B frames are as many as that
abbrev pub FramesHaveSize : Type 0
FramesHaveSize = (bodies : List (List ℕ))
    → length (spelled_frames (map fisb_frame bodies)) ≡ frames_size bodies

-- the test whether two stations are the same is right
abbrev pub StationsAreTold : Type 0
StationsAreTold = (a b : StationId) → IsTrue (same_station a b) ↔ (a ≡ b)
