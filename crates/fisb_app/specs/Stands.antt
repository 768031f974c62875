-- What an actor keeps, against the lines acted on, and what it answers to a line.
use Rattle.std.specs.Prelude.{◌≡◌, ℕ, ◌+◌, true, false, if◌then◌else◌, List, [], ◌∷◌, length, map}
use Rattle.std.specs.Prelude.{is_some}
use Rattle.std.specs.Prelude.{Option, Some, None, Result, Ok, Err, OnOk, OnErr, IfErr, option_map}
use Rattle.std.specs.Option.{option_or}
use Rattle.std.specs.BTreeMap.{BTreeMap, get}
use Rattle.uplink_frame.specs.declared.station.StationId.{StationId}
use Rattle.uplink_frame.specs.contracts.station.StationIdOrd.TheImpl as station_order
use Rattle.uplink_frame.specs.Station.{same_station}
use Rattle.life_table.specs.LifeTable.{LifeTable}
use Rattle.ground_core.specs.Update.{Update}
use Rattle.ground_core.specs.History.{Event, accepted, items}
use Rattle.ground_core.specs.Refusal.{GiveRefusal, give_refusal}
use Rattle.ground_core.specs.Told.{IsToldAt}
use Rattle.ground_core.specs.OnAir.{history_clock}
use Rattle.ground_core.specs.declared.fault.GiveFault.{GiveFault}
use Rattle.segment_core.specs.Store.{last_above}
use Rattle.ground_core.specs.Airing.{Frame}
use Rattle.ground_core.specs.Broadcast.{history_of}
use Rattle.receiver_core.specs.Reception.{Reception}
use Rattle.script_core.specs.Script.{Line}
use Rattle.refusal_core.specs.declared.reason.Reason.{Reason}
use Rattle.refusal_core.specs.declared.reason.Reason.TheVariants.{Clock}
use Rattle.run_core.specs.declared.stop.Stop.{Stop}
use Rattle.run_core.specs.declared.stop.Stop.TheVariants.{Refused, NoMemory}
use Rattle.fisb_app.specs.declared.sending.Sending.{Sending}
use Rattle.fisb_app.specs.declared.in_order.InOrder.{InOrder}
use Rattle.fisb_app.specs.declared.link.Link.{Link}
use Rattle.fisb_app.specs.declared.ground_alone.GroundAlone.{GroundAlone}
use Rattle.fisb_app.specs.declared.receiver_alone.ReceiverAlone.{ReceiverAlone}
use Rattle.fisb_app.specs.declared.relay.Relay.{Relay}
use Rattle.fisb_app.specs.declared.sent_frame.SentFrame.{SentFrame}
use Rattle.fisb_app.specs.Past.{lines_of, station_after, is_one_of, stations, broadcast, events}
use Rattle.fisb_app.specs.Past.{sent_frames, air_of, reception_from, receptions, receiver_clock}
use Rattle.fisb_app.specs.Reading.{frame_refusal, receiver_refusal, reason_of_update}
use Rattle.fisb_app.specs.Output.{heard_text}
use Rattle.fisb_app.specs.Work.{opening_table, opened_with}
use Rattle.life_table.specs.Fault.{Fault}

-- for which station, events and receptions a ground and a receiver stand
abbrev pub Sends : Type 0 → Type 1
Sends G = LifeTable → StationId → List Event → G → Type 0

abbrev pub Hears : Type 0 → Type 1
Hears E = LifeTable → List Reception → E → Type 0

-- An update was given to a ground, whatever history it stands for: the update is one more event,
-- against which nothing stood; or the fault is the first reason.
pub record HasGiven {G A : Type 0} (sends : Sends G) (old new : G) (moment : ℕ) (update : Update)
    (result : Result A GiveFault) : Type 0 where
  pub newest : (table : LifeTable) (station : StationId) (history : List Event)
      → sends table station history old
      → OnOk result (sends table station (accepted moment update ∷ history) new)
  pub nothing_against : (table : LifeTable) (station : StationId) (history : List Event)
      → sends table station history old
      → OnOk result ((last_above (history_clock history) moment ≡ None)
      × (give_refusal table (items table station history) moment update ≡ None))
  pub refused : (table : LifeTable) (station : StationId) (history : List Event)
      → sends table station history old
      → IfErr result (IsToldAt (last_above (history_clock history) moment)
      (give_refusal table (items table station history) moment update))
  pub same : (table : LifeTable) (station : StationId) (history : List Event)
      → sends table station history old
      → OnErr result (sends table station history new)

-- the ground of a station in a map of them
abbrev pub ground_at : {G : Type 0} → BTreeMap StationId G → StationId → Option G
ground_at grounds place = get station_order.ghosts.cmp grounds place

-- a ground stands for the history of its station; a station without one was given nothing
abbrev pub IsGroundOf : {G : Type 0} → Sends G → LifeTable → List Line → StationId → Option G
    → Type 0
IsGroundOf sends table acted place None =
    (is_one_of place (stations acted) ≡ false) × (history_of place (broadcast acted) ≡ [])
IsGroundOf sends table acted place (Some ground) = (is_one_of place (stations acted) ≡ true)
    × sends table place (history_of place (broadcast acted)) ground

-- The table was read of these bytes. The ground stands for what the lines gave to the station that
-- was named last, and each other one for what they gave to its station; as many are kept as there
-- are stations.
pub record Holds {G : Type 0} (sends : Sends G) (bytes : List ℕ) (acted : List Line)
    (s : Sending G) : Type 0 where
  pub opened : opening_table bytes ≡ Ok s.table
  pub station_is : s.station ≡ station_after acted
  pub ground : sends s.table (station_after acted) (events acted) s.ground
  pub apart : ground_at s.others (station_after acted) ≡ None
  pub others : (place : StationId) → same_station (station_after acted) place ≡ false
      → IsGroundOf sends s.table acted place (ground_at s.others place)
  pub count : length s.others.entries + 1 ≡ length (stations acted)

-- the ground that was found, or else this one
abbrev pub ground_or : {G : Type 0} → G → Option G → G
ground_or first None = first
ground_or first (Some ground) = ground

-- another station is named: the ground that was kept for it, or its first one, is in the place of
-- that of the last station, which is among the others
pub record IsChangedTo {G : Type 0} (named : StationId) (first : G) (old new : Sending G)
    : Type 0 where
  pub table_is : new.table ≡ old.table
  pub station_is : new.station ≡ named
  pub ground : same_station old.station named ≡ false
      → new.ground ≡ ground_or first (ground_at old.others named)
  pub others : (place : StationId) → same_station named place ≡ false
      → ground_at new.others place ≡ (if same_station old.station place then Some old.ground
      else ground_at old.others place)
  pub apart : ground_at new.others named ≡ None
  pub count : same_station old.station named ≡ false → ground_at old.others old.station ≡ None
      → length new.others.entries + (if is_some (ground_at old.others named) then 1 else 0)
      ≡ length old.others.entries + 1

-- nothing was changed
pub record IsSameSending {G : Type 0} (old new : Sending G) : Type 0 where
  pub table_is : new.table ≡ old.table
  pub station_is : new.station ≡ old.station
  pub ground : new.ground ≡ old.ground
  pub others : new.others.entries ≡ old.others.entries

-- a frame by its moment and its bytes on the air
pub record Aired : Type 0 where
  pub moment : ℕ
  pub air : List ℕ

abbrev pub sent_view : SentFrame → Aired
sent_view frame = record { moment = frame.moment; air = frame.air }

abbrev pub aired_view : Frame → Aired
aired_view frame = record { moment = frame.moment; air = air_of frame }

-- beside the ground, the frames that were sent and the receiver stand for what the lines made
pub record LinkHolds {G E : Type 0} (sends : Sends G) (hears : Hears E) (bytes : List ℕ)
    (acted : List Line)
    (link : Link G E) : Type 0 where
  pub holds : Holds sends bytes acted link.sending
  pub sent : map sent_view link.sent.items ≡ map aired_view (sent_frames link.sending.table acted)
  pub ear : hears link.sending.table (receptions link.sending.table acted) link.ear

pub record AloneHolds {G : Type 0} (sends : Sends G) (bytes : List ℕ) (acted : List Line)
    (alone : GroundAlone G)
    : Type 0 where
  pub holds : Holds sends bytes acted alone.sending
  pub sent : alone.sent ≡ length (sent_frames alone.sending.table acted)

-- the table was read of these bytes, and the receiver stands for what the lines made
pub record EarHolds {E : Type 0} (hears : Hears E) (bytes : List ℕ) (acted : List Line)
    (alone : ReceiverAlone E) : Type 0 where
  pub opened : opening_table bytes ≡ Ok alone.table
  pub ear : hears alone.table (receptions alone.table acted) alone.ear

pub record RelayHolds (bytes : List ℕ) (acted : List Line) (relay : Relay) : Type 0 where
  pub opened : opening_table bytes ≡ Ok relay.table

-- a command acted on these lines in their order: the clock of its receiver, too, is theirs
pub record IsInOrder {P V : Type 0} (holds : List ℕ → List Line → P → Type 0) (bytes : List ℕ)
    (past : List (List ℕ)) (s : InOrder P V) : Type 0 where
  pub parts : holds bytes (lines_of past) s.inner
  pub clock : s.clock ≡ receiver_clock (lines_of past)

-- a stop tells the reason; memory that is not found may stand in its place
abbrev pub TellsRefusal : Option Reason → Stop → Type 0
TellsRefusal refusal (Refused why) = refusal ≡ Some why
TellsRefusal refusal NoMemory = Unit {0}

-- a stop tells the fault of an update, after the last moment of a ground
abbrev pub TellsFault : GiveFault → Stop → Type 0
TellsFault fault stop = (last : Option ℕ) (refusal : Option GiveRefusal)
    → IsToldAt last refusal fault
    → TellsRefusal (option_or (option_map Clock last) (option_map reason_of_update refusal)) stop

-- what is answered to an update
abbrev pub HasAnsweredUpdate : {A B : Type 0} → Result A GiveFault → Result B Stop → Type 0
HasAnsweredUpdate (Ok given) (Ok done) = Unit {0}
HasAnsweredUpdate (Ok given) (Err stop) = ⊥
HasAnsweredUpdate (Err fault) (Ok done) = ⊥
HasAnsweredUpdate (Err fault) (Err stop) = TellsFault fault stop

-- something was done of which this holds, and there is no reason against it; or a stop tells the
-- reason
abbrev pub HasTried : {A : Type 0} → Option Reason → (A → Type 0) → Result A Stop → Type 0
HasTried refusal done (Ok a) = (refusal ≡ None) × done a
HasTried refusal done (Err stop) = TellsRefusal refusal stop

-- the bytes on the air of a frame that was sent, in time; or why there are none
abbrev pub IsFound : ℕ → ℕ → Option Frame → Result (List ℕ) Reason → Type 0
IsFound late moment found (Ok air) =
    (frame : Frame) × (found ≡ Some frame) × (frame_refusal late moment found ≡ None)
    × (air ≡ air_of frame)
IsFound late moment found (Err why) = frame_refusal late moment found ≡ Some why

-- a table, or a stop that tells its reason
abbrev pub HasRead : Result LifeTable Fault → Result LifeTable Stop → Type 0
HasRead table (Ok read) = table ≡ Ok read
HasRead table (Err stop) = TellsRefusal (opened_with table) stop

-- what is told of a frame that is not heard
abbrev pub HasUnheard : LifeTable → List Reception → ℕ → List ℕ → Result (List ℕ) Stop → Type 0
HasUnheard table past moment air result = HasTried (receiver_refusal past moment)
    (λ text. (text ≡ heard_text table past moment air)
    × (reception_from past moment air ≡ None)) result
