-- Histories that a ground can have: every update in them was accepted, and moments never fall. A
-- broadcast has the events of several stations, each of which has such a history; its frames are
-- numbered over all stations.
use Rattle.std.specs.Prelude.{◌≡◌, ℕ, ◌<◌, ◌≤◌, List, [], ◌∷◌, ◌++◌, map, filter, None}
use Rattle.fisb_time.specs.Moment.{IsMoment}
use Rattle.life_table.specs.LifeTable.{LifeTable}
use Rattle.uplink_frame.specs.declared.station.StationId.{StationId}
use Rattle.uplink_frame.specs.Station.{same_station, FitsStation}
use Rattle.ground_core.specs.Item.{Item}
use Rattle.ground_core.specs.Update.{IsUpdate}
use Rattle.ground_core.specs.History.{Event, accepted, fill, event_moment, items, new_items}
use Rattle.ground_core.specs.Airing.{Frame, frame_after}
use Rattle.ground_core.specs.Refusal.{give_refusal}

-- an update against which nothing stands, or a fill of one of the 32 slots
abbrev pub IsAccepted : LifeTable → List Item → Event → Type 0
IsAccepted table before (accepted moment update) =
    IsUpdate update × (give_refusal table before moment update ≡ None)
IsAccepted table before (fill moment slot) = slot < 32

-- the event is not before the one before it
abbrev pub IsNotBeforeLast : ℕ → List Event → Type 0
IsNotBeforeLast moment [] = Unit {0}
IsNotBeforeLast moment (event ∷ past) = event_moment event ≤ moment

-- the event can come after this history
pub record IsNext (table : LifeTable) (station : StationId) (past : List Event)
    (event : Event) : Type 0 where
  pub is_accepted : IsAccepted table (items table station past) event
  pub moment_is : IsMoment (event_moment event)
  pub not_before : IsNotBeforeLast (event_moment event) past

abbrev pub IsHistory : LifeTable → StationId → List Event → Type 0
IsHistory table station [] = Unit {0}
IsHistory table station (event ∷ past) =
    IsNext table station past event × IsHistory table station past

-- an event of a station; a broadcast is a list of them, the newest event first
pub record StationEvent : Type 0 where
  pub station : StationId
  pub event : Event

abbrev pub history_of : StationId → List StationEvent → List Event
history_of station broadcast =
    map (λ b. b.event) (filter (λ b. same_station b.station station) broadcast)

abbrev pub IsBroadcast : LifeTable → List StationEvent → Type 0
IsBroadcast table [] = Unit {0}
IsBroadcast table (b ∷ past) =
    FitsStation b.station × IsNext table b.station (history_of b.station past) b.event
    × IsBroadcast table past

-- the frames of all stations, numbered from 0 by their place
abbrev pub frames_of_event : LifeTable → StationId → List Event → Event → List Frame
frames_of_event table station past (accepted moment update) = []
frames_of_event table station past (fill moment slot) =
    frame_after table station past moment slot ∷ []

abbrev pub frames : LifeTable → List StationEvent → List Frame
frames table [] = []
frames table (b ∷ past) =
    frames table past ++ frames_of_event table b.station (history_of b.station past) b.event

-- the items of all stations
abbrev pub all_items : LifeTable → List StationEvent → List Item
all_items table [] = []
all_items table (b ∷ past) =
    all_items table past ++ new_items table b.station
    (items table b.station (history_of b.station past)) b.event
