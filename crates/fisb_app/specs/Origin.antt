-- Where the frames come from that a receiver hears: frames of a broadcast, each with at most ten
-- wrong bytes in a block, and in time.
use Rattle.std.specs.Prelude.{ℕ, ◌+◌, Bool, true, false, ◌&&◌, nat_le, List, [], ◌∷◌, length}
use Rattle.std.specs.Prelude.{Option, Some, None, slice_get, slice_index}
use Rattle.life_table.specs.LifeTable.{LifeTable}
use Rattle.ground_core.specs.Airing.{Frame}
use Rattle.ground_core.specs.Broadcast.{StationEvent, IsBroadcast, frames}
use Rattle.fisb_link.specs.Hearing.{Hearing}
use Rattle.fisb_link.specs.LinkPicture.{link_picture}
use Rattle.script_core.specs.Script.{Line, rx}
use Rattle.fisb_app.specs.Past.{air_of}
use Rattle.fisb_app.specs.Damage.{has_near_blocks}
use Rattle.fisb_app.specs.Output.{Claim, Shows}

-- a broadcast under each table that may open a run; and the number of its frame that each `rx` line
-- hears, in the order of these lines
pub record Origin : Type 0 where
  pub broadcast : LifeTable → List StationEvent
  pub numbers : List ℕ

abbrev pub IsOrigin : Origin → Type 0
IsOrigin origin = (table : LifeTable) → IsBroadcast table (origin.broadcast table)

-- what was heard of it by these lines, the newest first
abbrev pub with_hearing : List ℕ → List Hearing → Line → List Hearing
with_hearing numbers past (rx moment air) =
    record { frame = slice_index numbers (length past); moment = moment } ∷ past
with_hearing numbers past line = past

abbrev pub numbered_hearings : List ℕ → List Line → List Hearing
numbered_hearings numbers [] = []
numbered_hearings numbers (line ∷ acted) =
    with_hearing numbers (numbered_hearings numbers acted) line

-- these bytes are the frame with at most ten wrong bytes in each block, heard not before it was
-- sent, and at most so many seconds after
abbrev pub is_sent_frame : ℕ → ℕ → List ℕ → Option Frame → Bool
is_sent_frame late moment air None = false
is_sent_frame late moment air (Some frame) = has_near_blocks air (air_of frame)
    && (nat_le frame.moment moment && nat_le moment (frame.moment + late))

abbrev pub hears_sent : ℕ → List Frame → ℕ → Line → Bool
hears_sent late sent number (rx moment air) = is_sent_frame late moment air (slice_get sent number)
hears_sent late sent number line = true

-- all lines acted on
abbrev pub all_from : List ℕ → ℕ → List Frame → List Line → Bool
all_from numbers late sent [] = true
all_from numbers late sent (line ∷ acted) =
    hears_sent late sent (slice_index numbers (length (numbered_hearings numbers acted))) line
    && all_from numbers late sent acted

abbrev pub all_sent : Origin → Claim
all_sent origin table acted =
    all_from origin.numbers table.late (frames table (origin.broadcast table)) acted

-- the picture by what was given, sent and heard of the broadcast
abbrev pub origin_picture : Origin → Shows
origin_picture origin table acted moment =
    link_picture table (origin.broadcast table) (numbered_hearings origin.numbers acted) moment
