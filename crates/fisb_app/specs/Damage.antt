-- How much of the frames that were heard was wrong: the one premise of what a link promises.
use Rattle.std.specs.Prelude.{ℕ, Bool, true, ◌&&◌, List, [], ◌∷◌, Option, Some, None, slice_get}
use Rattle.std.specs.List.{list_all, range_with_len}
use Rattle.rs_code.specs.CodeWord.{are_near}
use Rattle.uplink_weave.specs.Woven.{block, block_roots}
use Rattle.ground_core.specs.Airing.{Frame}
use Rattle.script_core.specs.Script.{Line, hear}
use Rattle.fisb_app.specs.Past.{sent_frames, air_of, air_heard}
use Rattle.fisb_app.specs.Output.{Claim}

-- each of the six blocks differs from the one that was sent in no more places than half the roots
-- of its code: ten of 92
unfoldable pub has_near_blocks : List ℕ → List ℕ → Bool
has_near_blocks heard sent =
    list_all (λ r. are_near block_roots (block r heard) (block r sent)) (range_with_len 0 6)

abbrev pub is_near_frame : List (ℕ × ℕ) → Option Frame → Bool
is_near_frame wrong None = true
is_near_frame wrong (Some frame) = has_near_blocks (air_heard wrong (air_of frame)) (air_of frame)

-- a line that hears a frame, where these were sent
abbrev pub hears_near : List Frame → Line → Bool
hears_near sent (hear moment frame wrong) = is_near_frame wrong (slice_get sent frame)
hears_near sent line = true

-- all lines acted on
abbrev pub all_near : Claim
all_near table [] = true
all_near table (line ∷ past) = hears_near (sent_frames table past) line && all_near table past
