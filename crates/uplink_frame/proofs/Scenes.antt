-- Small scenes, computed by the definitions alone: what a header and information frames are as bytes, and what bytes are.
use Rattle.std.proofs.Common.{◌≡◌, ℕ, true, List, [], ◌∷◌, ◌++◌, take, replicate, refl}
use Rattle.uplink_frame.specs.declared.header.UplinkHeader.{UplinkHeader}
use Rattle.uplink_frame.specs.UplinkFrame.{header_bytes, header_in, fisb_frame, information_frame, information_frames, payload_of}

abbrev with_flags : ℕ → ℕ → ℕ → UplinkHeader
with_flags latitude longitude slot = record {
  lat = latitude;
  lon = longitude;
  position_valid = true;
  utc = true;
  app_valid = true;
  slot = slot;
  site = 3;
}

-- a header without a position's counts, and one with small ones
pub header_bytes-slot_5 : header_bytes (with_flags 0 0 5) ≡ 0 ∷ 0 ∷ 0 ∷ 0 ∷ 0 ∷ 0x01 ∷ 0xA5 ∷ 0x30 ∷ []
header_bytes-slot_5 = refl

pub header_bytes-place : header_bytes (with_flags 5 9 0) ≡ 0 ∷ 0 ∷ 0x0A ∷ 0 ∷ 0 ∷ 0x13 ∷ 0xA0 ∷ 0x30 ∷ []
header_bytes-place = refl

pub header_in-slot_5 : header_in (0 ∷ 0 ∷ 0 ∷ 0 ∷ 0 ∷ 0x01 ∷ 0xA5 ∷ 0x30 ∷ []) ≡ with_flags 0 0 5
unfolding header_in
header_in-slot_5 = refl

-- reserved bits are not looked at
pub header_in-reserved : header_in (0 ∷ 0 ∷ 0x0A ∷ 0 ∷ 0 ∷ 0x13 ∷ 0xE0 ∷ 0x3F ∷ []) ≡ with_flags 5 9 0
unfolding header_in
header_in-reserved = refl

-- an APDU with a payload of nine bytes, and a body whose length needs the ninth bit
pub information_frame-thirteen :
    take 7 (information_frame (fisb_frame (0x06 ∷ 0x74 ∷ 0x32 ∷ 0x20 ∷ replicate 9 7))) ≡ 0x06 ∷ 0x80 ∷ 0x06 ∷ 0x74 ∷ 0x32 ∷ 0x20 ∷ 7 ∷ []
information_frame-thirteen = refl

pub information_frame-nine_bits :
    take 2 (information_frame (record { kind = 5; body = replicate 300 7 })) ≡ 0x96 ∷ 0x05 ∷ []
information_frame-nine_bits = refl

-- a payload with these application data, and zeros behind them
abbrev with_data : List ℕ → List ℕ
with_data bytes = header_bytes (with_flags 0 0 5) ++ (bytes ++ replicate 100 0)

pub frames-two :
    information_frames (with_data (0x02 ∷ 0x02 ∷ 0xAA ∷ 0xBB ∷ 0xCC ∷ 0xDD ∷ 0x02 ∷ 0x00 ∷ 0x00 ∷ 0x20 ∷ 0x58 ∷ 0xD0 ∷ []))
    ≡ record { kind = 2; body = 0xAA ∷ 0xBB ∷ 0xCC ∷ 0xDD ∷ [] } ∷ fisb_frame (0x00 ∷ 0x20 ∷ 0x58 ∷ 0xD0 ∷ []) ∷ []
unfolding information_frames
frames-two = refl

-- length 0 and type 0 end the list, whatever stands behind them, and reserved bits between them change nothing
pub frames-end : information_frames (with_data (0x00 ∷ 0x82 ∷ 0xAA ∷ 0x00 ∷ 0x70 ∷ 0x00 ∷ 0x82 ∷ 0xBB ∷ [])) ≡ record { kind = 2; body = 0xAA ∷ [] } ∷ []
unfolding information_frames
frames-end = refl

-- length 0 and another type is a frame
pub frames-empty_body : information_frames (with_data (0x00 ∷ 0x05 ∷ [])) ≡ record { kind = 5; body = [] } ∷ []
unfolding information_frames
frames-empty_body = refl

-- a length above what is left, and a single byte that is left
pub frames-cut : information_frames (replicate 8 0 ++ (0x02 ∷ 0x02 ∷ 0xAA ∷ 0xBB ∷ [])) ≡ []
unfolding information_frames
frames-cut = refl

pub frames-one_byte_left : information_frames (replicate 8 0 ++ (0x00 ∷ 0x82 ∷ 0xAA ∷ 0xFF ∷ [])) ≡ record { kind = 2; body = 0xAA ∷ [] } ∷ []
unfolding information_frames
frames-one_byte_left = refl

-- what is written reads back
pub reads_back-one :
    information_frames (payload_of (with_flags 5 9 0) (record { kind = 15; body = [] } ∷ fisb_frame (1 ∷ 2 ∷ 3 ∷ []) ∷ []))
    ≡ record { kind = 15; body = [] } ∷ fisb_frame (1 ∷ 2 ∷ 3 ∷ []) ∷ []
unfolding information_frames payload_of
reads_back-one = refl
