-- The laws of woven frames.
use Rattle.std.specs.Prelude.{◌≡◌, ◌↔◌, ℕ, ◌+◌, ◌<◌, ◌≤◌, ◌⊎◌, List, length, slice_index}
use Rattle.std.specs.Prelude.{replicate, map, IsTrue, Some, None}
use Rattle.std.specs.List.{range_with_len}
use Rattle.rs_code.specs.CodeWord.{are_near, differences}
use Rattle.uplink_frame.specs.UplinkFrame.{payload_length}
use Rattle.uplink_weave.specs.Woven.{block, block_roots, frame_bytes, IsWoven, AllCorrectable}
use Rattle.uplink_weave.specs.Woven.{HasCounts, HasPayload, IsLostBlock}
use Rattle.uplink_weave.specs.Functions.{woven_frame, payload_in, counts_in, lost_block_in}

-- a woven frame has the payload that it is woven of, and no byte of it is to be changed
abbrev pub WovenGivesPayload : Type 0
WovenGivesPayload =
    (payload air : List ℕ) → IsWoven payload air
    → HasPayload air payload × HasCounts air (replicate 6 0)

-- a frame whose blocks are near those of a woven frame has the payload of that frame
abbrev pub NearGivesPayload : Type 0
NearGivesPayload =
    (payload woven_frame air : List ℕ) → IsWoven payload woven_frame
    → ((r : ℕ) → r < 6 → IsTrue (are_near block_roots (block r air) (block r woven_frame)))
    → HasPayload air payload

-- a frame has at most one payload, one list of counts and one first lost block
pub record IsUnique : Type 0 where
  pub payload : (air one other : List ℕ) → HasPayload air one → HasPayload air other → one ≡ other
  pub counts : (air one other : List ℕ) → HasCounts air one → HasCounts air other → one ≡ other
  pub lost :
      (air : List ℕ) (one other : ℕ) → IsLostBlock air one → IsLostBlock air other → one ≡ other

-- frames that differ only inside 60 consecutive places differ in at most ten places of each block
abbrev pub BurstIsSpread : Type 0
BurstIsSpread =
    (first : ℕ) (air other : List ℕ) → length air ≡ frame_bytes → length other ≡ frame_bytes
    → ((place : ℕ) → (place < first) ⊎ (first + 60 ≤ place) →
    slice_index air place ≡ slice_index other place)
    → (r : ℕ) → r < 6 → differences (block r air) (block r other) ≤ 10

-- `woven_frame` gives the frame that is woven of a payload, and there is no other
pub record IsTheFrame : Type 0 where
  pub only : (payload air : List ℕ) → IsWoven payload air → air ≡ woven_frame payload
  pub made :
      (payload : List ℕ) → length payload ≡ payload_length → ((i : ℕ) → slice_index payload i < 256)
      → IsWoven payload (woven_frame payload)
      × ((i : ℕ) → slice_index (woven_frame payload) i < 256)
  pub long : (payload : List ℕ) → length (woven_frame payload) ≡ frame_bytes

-- the functions of a frame give its payload, its counts and its first lost block, and give none
-- exactly where there is none
pub record GivesPayload : Type 0 where
  pub payload : (air payload : List ℕ) → (payload_in air ≡ Some payload) ↔ HasPayload air payload
  pub no_payload : (air : List ℕ) → (payload_in air ≡ None) ↔ ¬ AllCorrectable air
  pub counts :
      (air counts : List ℕ) → AllCorrectable air → (counts ≡ counts_in air) ↔ HasCounts air counts
  pub lost : (air : List ℕ) (r : ℕ) → (lost_block_in air ≡ Some r) ↔ IsLostBlock air r
  pub none_lost : (air : List ℕ) → (lost_block_in air ≡ None) ↔ AllCorrectable air

-- the frame of a payload has that payload, and no byte of it is to be changed
abbrev pub FrameGivesPayload : Type 0
FrameGivesPayload =
    (payload : List ℕ) → length payload ≡ payload_length → ((i : ℕ) → slice_index payload i < 256)
    → (payload_in (woven_frame payload) ≡ Some payload)
    × (counts_in (woven_frame payload) ≡ replicate 6 0)
    × (lost_block_in (woven_frame payload) ≡ None)

-- a frame whose blocks are near those of the frame of a payload has that payload, and each count is
-- the number of places in which its block differs
abbrev pub NearFrameGivesPayload : Type 0
NearFrameGivesPayload =
    (payload air : List ℕ) → length payload ≡ payload_length
    → ((i : ℕ) → slice_index payload i < 256)
    → ((r : ℕ) → r < 6
    → IsTrue (are_near block_roots (block r air) (block r (woven_frame payload))))
    → (payload_in air ≡ Some payload)
    × (counts_in air
    ≡ map (λ r. differences (block r air) (block r (woven_frame payload))) (range_with_len 0 6))
    × (lost_block_in air ≡ None)

-- a frame that differs from the frame of a payload only inside 60 consecutive places has that
-- payload
abbrev pub BurstGivesPayload : Type 0
BurstGivesPayload =
    (payload air : List ℕ) (first : ℕ) → length payload ≡ payload_length
    → ((i : ℕ) → slice_index payload i < 256) → length air ≡ frame_bytes
    → ((place : ℕ) → (place < first) ⊎ (first + 60 ≤ place) →
    slice_index air place ≡ slice_index (woven_frame payload) place)
    → payload_in air ≡ Some payload
