-- No segment waits for ever: how many fills may pass until it is aired.
use Rattle.std.specs.Prelude.{◌≡◌, ℕ, ◌+◌, ◌*◌, ◌/◌, ◌<◌, ◌≤◌, List, [], ◌∷◌, ◌++◌}
use Rattle.list_members.specs.Membership.{IsIn}
use Rattle.life_table.specs.LifeTable.{LifeTable}
use Rattle.uplink_frame.specs.declared.station.StationId.{StationId}
use Rattle.ground_core.specs.Item.{Segment, room_of}
use Rattle.ground_core.specs.History.{Event, accepted, fill, event_moment, items}
use Rattle.ground_core.specs.Airing.{log, waiting_segments, airing}
use Rattle.ground_core.specs.Broadcast.{IsHistory}

-- how many bytes of frames some segments take
abbrev pub bytes_of : List Segment → ℕ
bytes_of [] = 0
bytes_of (s ∷ more) = room_of s + bytes_of more

abbrev pub waiting_after : LifeTable → StationId → List Event → ℕ → List Segment
waiting_after table station history moment =
    waiting_segments (items table station history) (log table station history) moment

abbrev pub aired_after : LifeTable → StationId → List Event → ℕ → List Segment
aired_after table station history moment =
    airing (items table station history) (log table station history) moment

-- how many fills there are among some events
abbrev pub fills : List Event → ℕ
fills [] = 0
fills (accepted moment update ∷ later) = fills later
fills (fill moment slot ∷ later) = fills later + 1

-- after this past a segment waits at each fill of what came later, and no frame of them has it
abbrev pub WaitsStill : LifeTable → StationId → List Event → Segment → List Event → Type 0
WaitsStill table station past s [] = Unit {0}
WaitsStill table station past s (accepted moment update ∷ later) =
    WaitsStill table station past s later
WaitsStill table station past s (fill moment slot ∷ later) =
    IsIn s (waiting_after table station (later ++ past) moment)
    × (IsIn s (aired_after table station (later ++ past) moment) → ⊥)
    × WaitsStill table station past s later

-- no event is before the moment
abbrev pub AreFrom : ℕ → List Event → Type 0
AreFrom moment [] = Unit {0}
AreFrom moment (event ∷ later) = (moment ≤ event_moment event) × AreFrom moment later

-- A segment before which these wait, at a moment that no later event is before, is aired by the
-- n-th next fill while it stays live, n being twice the bytes before it by 425, rounded down, plus
-- 2: fewer fills than that are without it. Updates among the later events are after it in the
-- order, and change nothing of that.
abbrev pub NoStarvation : Type 0
NoStarvation = (table : LifeTable) (station : StationId) (past later : List Event) (moment : ℕ)
    (s : Segment) (before after : List Segment)
    → IsHistory table station (later ++ past) → AreFrom moment later
    → waiting_after table station past moment ≡ before ++ s ∷ after
    → WaitsStill table station past s later
    → fills later < 2 * bytes_of before / 425 + 2
