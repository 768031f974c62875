-- The payload of a ground uplink message (RTCA DO-282B): a header of 8 bytes, and 424 bytes of
-- information frames.
use Rattle.std.specs.Prelude.{ℕ, zero, suc, ◌+◌, ◌-◌, ◌^◌, ◌<◌, Bool, ◌&&◌, ◌||◌, ◌==◌, ◌≡◌}
use Rattle.std.specs.Prelude.{nat_lt, if◌then◌else◌, List, [], ◌∷◌, ◌++◌, length, take, drop}
use Rattle.std.specs.Prelude.{flat_map, replicate}
use Rattle.std.specs.Int.{bytes_high_first}
use Rattle.bit_fields.specs.Bits.{bit, as_number, field_at}
use Rattle.uplink_frame.specs.declared.header.UplinkHeader.{UplinkHeader}

-- how many bytes a payload has, and how many of them are for information frames
abbrev pub payload_length : ℕ
payload_length = 432

abbrev pub frame_room : ℕ
frame_room = 424

-- the 8 bytes of a header; the two reserved fields are 0
abbrev pub header_bytes : UplinkHeader → List ℕ
header_bytes h = bytes_high_first 8 (as_number 0 (
    record { width = 23; number = h.lat } ∷ record { width = 24; number = h.lon }
    ∷ record { width = 1; number = bit h.position_valid } ∷ record { width = 1; number = bit h.utc }
    ∷ record { width = 1; number = 0 } ∷ record { width = 1; number = bit h.app_valid }
    ∷ record { width = 5; number = h.slot } ∷ record { width = 4; number = h.site }
    ∷ record { width = 4; number = 0 } ∷ []))

-- the header that the bits of a payload spell; reserved bits are not looked at
unfoldable pub header_in : List ℕ → UplinkHeader
header_in payload = let front = take 8 payload in record {
  lat = field_at front 0 23;
  lon = field_at front 23 24;
  position_valid = field_at front 47 1 == 1;
  utc = field_at front 48 1 == 1;
  app_valid = field_at front 50 1 == 1;
  slot = field_at front 51 5;
  site = field_at front 56 4;
}

-- each field fits its width
pub record FitsHeader (h : UplinkHeader) : Type 0 where
  pub lat : h.lat < 2 ^ 23
  pub lon : h.lon < 2 ^ 24
  pub slot : h.slot < 32
  pub site : h.site < 16

-- an information frame: its type, and its bytes; type 0 is a FIS-B APDU
pub record InformationFrame : Type 0 where
  pub kind : ℕ
  pub body : List ℕ

-- the two bytes before a body: 9 bits of length, 3 reserved bits, 4 bits of type
abbrev pub frame_front : ℕ → ℕ → ℕ → List ℕ
frame_front size reserved kind = bytes_high_first 2
    (as_number 0 (record { width = 9; number = size } ∷ record { width = 3; number = reserved }
    ∷ record { width = 4; number = kind } ∷ []))

-- the bytes of a frame; its reserved bits are 0
abbrev pub information_frame : InformationFrame → List ℕ
information_frame frame = frame_front (length frame.body) 0 frame.kind ++ frame.body

-- the length and the type at the front of some bytes; reserved bits are not looked at
abbrev pub length_at_front : List ℕ → ℕ
length_at_front bytes = field_at (take 2 bytes) 0 9

abbrev pub kind_at_front : List ℕ → ℕ
kind_at_front bytes = field_at (take 2 bytes) 12 4

-- the list ends where fewer than two bytes are left, where length and type are 0, and where the
-- length is more than what is left
abbrev pub ends_here : List ℕ → Bool
ends_here bytes = nat_lt (length bytes) 2
    || ((length_at_front bytes == 0) && (kind_at_front bytes == 0))
    || nat_lt (length bytes) (2 + length_at_front bytes)

abbrev pub frame_at_front : List ℕ → InformationFrame
frame_at_front bytes = record {
  kind = kind_at_front bytes;
  body = take (length_at_front bytes) (drop 2 bytes);
}

abbrev pub behind_frame : List ℕ → List ℕ
behind_frame bytes = drop (length_at_front bytes) (drop 2 bytes)

-- at most so many information frames, from the front of the bytes on
abbrev pub frames_at_front : ℕ → List ℕ → List InformationFrame
frames_at_front zero bytes = []
frames_at_front (suc most) bytes = if ends_here bytes then []
    else frame_at_front bytes ∷ frames_at_front most (behind_frame bytes)

-- the information frames that some bytes begin with
unfoldable pub frames_in : List ℕ → List InformationFrame
frames_in bytes = frames_at_front (length bytes) bytes

-- the information frames of a payload, of which each takes two bytes or more. This walks over them;
-- `Spelling` says which they are with no walk, and a law that they are the same
unfoldable pub information_frames : List ℕ → List InformationFrame
information_frames payload = frames_at_front 212 (drop 8 payload)

-- a FIS-B frame of this body
abbrev pub fisb_frame : List ℕ → InformationFrame
fisb_frame body = record { kind = 0; body = body }

-- the bytes of information frames, one after another
abbrev pub spelled_frames : List InformationFrame → List ℕ
spelled_frames frames = flat_map information_frame frames

-- the application data of information frames: what they leave of the room is zeros
abbrev pub application_data : List InformationFrame → List ℕ
application_data frames =
    spelled_frames frames ++ replicate (frame_room - length (spelled_frames frames)) 0

-- the payload of a header and of information frames
unfoldable pub payload_of : UplinkHeader → List InformationFrame → List ℕ
payload_of header frames = header_bytes header ++ application_data frames

-- the type and the length fit their fields, and the frame is not what ends a list
pub record FitsFrame (frame : InformationFrame) : Type 0 where
  pub kind : frame.kind < 16
  pub body : length frame.body < 512
  pub goes_on : frame.kind ≡ 0 → 0 < length frame.body
