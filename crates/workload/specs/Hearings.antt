-- What is changed of a frame before it is heard.
use Rattle.std.specs.Prelude.{ℕ, zero, suc, ◌+◌, ◌*◌, ◌%◌, List, [], ◌∷◌, ◌++◌, map, bit_xor}
use Rattle.std.specs.Prelude.{slice_index, slice_set}
use Rattle.std.specs.List.{range_with_len}
use Rattle.uplink_weave.specs.Woven.{block_bytes}
use Rattle.workload.specs.Draws.{Drawn, draw, give, ◌>>=◌}

-- byte `place` of a block, as a place of the frame: the six blocks are woven byte by byte
abbrev pub place_on_air : ℕ → ℕ → ℕ
place_on_air block place = 6 * place + block

-- the changes of a block: so many bytes, nine places from one to the next and round at its end, are
-- changed by one byte
unfoldable pub block_changes : ℕ → ℕ → ℕ → ℕ → List (ℕ × ℕ)
block_changes block count first byte =
    map (λ t. (place_on_air block ((first + 9 * t) % block_bytes), byte)) (range_with_len 0 count)

-- the changes of so many blocks, the first of them this one, three draws for each
unfoldable pub changes : ℕ → ℕ → Drawn (List (ℕ × ℕ))
changes block zero = give []
changes block (suc more) = do
  count ← draw
  first ← draw
  byte ← draw
  others ← changes (block + 1) more
  give (block_changes block (count % 11) (first % block_bytes) (1 + byte % 255) ++ others)

-- a frame after its changes, one after another: each byte is added to the one at its place without
-- carry
unfoldable pub frame_with_changes : List (ℕ × ℕ) → List ℕ → List ℕ
frame_with_changes [] frame = frame
frame_with_changes (change ∷ more) frame =
    frame_with_changes more
    (slice_set frame change.0 (bit_xor (slice_index frame change.0) change.1))
