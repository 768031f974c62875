-- How much a receiver holds: no more than what can still live may have brought. A version lies at
-- most a minute after the reception that names it, and lives as long as the table says.
use Rattle.std.specs.Prelude.{◌≡◌, ℕ, ◌+◌, ◌*◌, ◌≤◌, Bool, nat_lt, List, length, filter}
use Rattle.uplink_frame.specs.UplinkFrame.{frame_room}
use Rattle.life_table.specs.LifeTable.{LifeTable, greatest_life}
use Rattle.segment_core.specs.Bound.{IsPurged, pieces_size}
use Rattle.picture_core.specs.Kept.{live_entries}
use Rattle.receiver_core.specs.Reception.{Reception}
use Rattle.receiver_core.specs.StandsFor.{Held, IsSettled, StandsFor, moment_now}

-- something that a reception brought may live at the moment
abbrev pub may_live : LifeTable → ℕ → Reception → Bool
may_live table moment heard = nat_lt moment (heard.moment + greatest_life table + 60)

-- how many of them are such
abbrev pub number_alive : LifeTable → ℕ → List Reception → ℕ
number_alive table moment heard = length (filter (may_live table moment) heard)

-- For so many receptions, the bytes of all pieces, all segment numbers and all entries that are
-- kept: a payload has 424 bytes of frames, a frame with segment fields takes nine of them at
-- least, and a byte says five entries at most. The queues by their ends have no more places than
-- there are numbers and entries (`Joiner::places`, `Picture::places`).
pub record IsFewFor (held : Held) (number : ℕ) : Type 0 where
  pub bytes : pieces_size held.joiner.store.pieces ≤ frame_room * number
  pub numbers : length held.joiner.store.pieces ≤ 47 * number
  pub entries : length held.picture.entries ≤ 2120 * number
  -- no mark stands, for which more would be kept
  pub settled : IsSettled held

-- what is held for these receptions is little, by those of which something may live at the last of
-- them
abbrev pub IsBounded : LifeTable → List Reception → Held → Type 0
IsBounded table heard held = IsFewFor held (number_alive table (moment_now heard) heard)

-- nothing is held that has ended at the moment
pub record IsPurgedAt (held : Held) (moment : ℕ) : Type 0 where
  pub settled : IsSettled held
  pub segments : IsPurged held.joiner.store moment
  pub entries : live_entries moment held.picture.entries ≡ held.picture.entries

abbrev pub ReceiversAreBounded : Type 0
ReceiversAreBounded = (table : LifeTable) (heard : List Reception) (held : Held) (moment : ℕ)
    → StandsFor table held heard → IsPurgedAt held moment → IsBounded table heard held
