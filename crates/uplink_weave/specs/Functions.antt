-- Frames as functions, for definitions that stand above: the frame of a payload, and the payload of
-- a frame.
use Rattle.std.specs.Prelude.{◌≡◌, ℕ, ◌*◌, ◌/◌, ◌%◌, List, [], ◌∷◌, ◌++◌, slice_index, take, drop, map}
use Rattle.std.specs.Prelude.{length, find, Option, Some, None, option_map, unwrap_or, is_none}
use Rattle.std.specs.List.{range_with_len}
use Rattle.std.proofs.lemmas.List.FromFn.{length-map-range_with_len}
use Rattle.rs_code.specs.CodeWord.{differences}
use Rattle.rs_code.specs.Functions.{encoded_word, corrected_word}
use Rattle.uplink_weave.specs.Woven.{block, block_bytes, block_roots, first_root, frame_bytes}

-- the part of a payload that a block carries
abbrev pub part : ℕ → List ℕ → List ℕ
part r payload = take 72 (drop (72 * r) payload)

-- the frame of a payload: byte 6k + r on the air is byte k of the code word that begins with part r
unfoldable pub woven_frame : List ℕ → List ℕ
woven_frame payload =
    map (λ place.
    slice_index (encoded_word block_bytes block_roots first_root (part (place % 6) payload))
    (place / 6))
    (range_with_len 0 frame_bytes)

-- it has the bytes of a frame, whatever the payload is
pub length-woven_frame : (payload : List ℕ) → length (woven_frame payload) ≡ frame_bytes
unfolding woven_frame
length-woven_frame payload =
    length-map-range_with_len (λ (place : ℕ).
    slice_index (encoded_word block_bytes block_roots first_root (part (place % 6) payload))
    (place / 6)) 0 frame_bytes

-- the code word near a block, where there is one
unfoldable pub corrected_block : List ℕ → ℕ → Option (List ℕ)
corrected_block air r = corrected_word block_bytes block_roots first_root (block r air)

-- the first 72 bytes of each word, joined, where none is missing
abbrev pub payload_of_words : List (Option (List ℕ)) → Option (List ℕ)
payload_of_words [] = Some []
payload_of_words (None ∷ words) = None
payload_of_words (Some word ∷ words) =
    option_map (λ rest. take 72 word ++ rest) (payload_of_words words)

-- the payload of a frame, where each block has a code word near it
unfoldable pub payload_in : List ℕ → Option (List ℕ)
payload_in air = payload_of_words (map (corrected_block air) (range_with_len 0 6))

-- in how many places each block differs from the code word near it; 0 where there is none
unfoldable pub counts_in : List ℕ → List ℕ
counts_in air =
    map (λ r. differences (block r air) (unwrap_or (corrected_block air r) (block r air)))
    (range_with_len 0 6)

-- the first block that no code word is near, where there is one
unfoldable pub lost_block_in : List ℕ → Option ℕ
lost_block_in air = find (λ r. is_none (corrected_block air r)) (range_with_len 0 6)
