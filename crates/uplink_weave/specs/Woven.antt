-- Frames of the uplink on the air: the six code words of a frame, woven byte by byte.
use Rattle.std.specs.Prelude.{◌≡◌, ℕ, ◌+◌, ◌*◌, ◌<◌}
use Rattle.std.specs.Prelude.{List, [], length, slice_index, slice_index_or, map}
use Rattle.std.specs.List.{range_with_len}
use Rattle.rs_code.specs.CodeWord.{IsCodeWord, IsNear, IsCorrectable, differences}
use Rattle.uplink_frame.specs.UplinkFrame.{payload_length}

-- the code of the blocks: their bytes, how many roots it has, and the power of 2 that is the first
-- root
abbrev pub block_bytes : ℕ
block_bytes = 92

abbrev pub block_roots : ℕ
block_roots = 20

abbrev pub first_root : ℕ
first_root = 120

-- the bytes of a frame on the air: six blocks
abbrev pub frame_bytes : ℕ
frame_bytes = 552

-- a block of a frame: byte k of block r is byte 6k + r on the air
unfoldable pub block : ℕ → List ℕ → List ℕ
block r air = map (λ k. slice_index air (6 * k + r)) (range_with_len 0 block_bytes)

-- a word begins with the bytes 72r up to 72r + 71 of a payload
abbrev pub BeginsWithPart : ℕ → List ℕ → List ℕ → Type 0
BeginsWithPart r payload word =
    (k : ℕ) → k < 72 → slice_index word k ≡ slice_index payload (72 * r + k)

-- a frame is woven of a payload
pub record IsWoven (payload air : List ℕ) : Type 0 where
  pub full : length payload ≡ payload_length
  pub long : length air ≡ frame_bytes
  pub code : (r : ℕ) → r < 6 → IsCodeWord block_bytes block_roots first_root (block r air)
  pub parts : (r : ℕ) → r < 6 → BeginsWithPart r payload (block r air)

-- there is a code word near each block
abbrev pub AllCorrectable : List ℕ → Type 0
AllCorrectable air =
    (r : ℕ) → r < 6 → IsCorrectable block_bytes block_roots first_root (block r air)

-- each of the six words is the code word near its block
abbrev pub AreCorrected : List ℕ → List (List ℕ) → Type 0
AreCorrected air words =
    (r : ℕ) → r < 6
    → IsNear block_bytes block_roots first_root (block r air) (slice_index_or words r [])

-- a frame has a payload: the beginnings of code words near its blocks
pub record HasPayload (air payload : List ℕ) : Type 0 where
  pub full : length payload ≡ payload_length
  pub parts :
      (r : ℕ) → r < 6
      → (word : List ℕ) × IsNear block_bytes block_roots first_root (block r air) word
      × BeginsWithPart r payload word

-- in how many places each block differs from a code word near it
pub record HasCounts (air counts : List ℕ) : Type 0 where
  pub six : length counts ≡ 6
  pub each :
      (r : ℕ) → r < 6
      → (word : List ℕ) × IsNear block_bytes block_roots first_root (block r air) word
      × (slice_index counts r ≡ differences (block r air) word)

-- the first block that no code word is near
pub record IsLostBlock (air : List ℕ) (r : ℕ) : Type 0 where
  pub below : r < 6
  pub lost : ¬ IsCorrectable block_bytes block_roots first_root (block r air)
  pub first :
      (lower : ℕ) → lower < r
      → IsCorrectable block_bytes block_roots first_root (block lower air)
