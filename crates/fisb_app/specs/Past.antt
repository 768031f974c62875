-- What the lines acted on have made: a broadcast, what was heard of its frames, and what was
-- received. The newest line stands first.
use Rattle.std.specs.Prelude.{ℕ, ◌==◌, Bool, if◌then◌else◌, List, [], ◌∷◌, map, Option, Some, None}
use Rattle.std.specs.Prelude.{option_map, slice_get, slice_index}
use Rattle.std.specs.List.{cons_option, filter_map, list_any, range_with_len}
use Rattle.std.specs.Option.{option_or}
use Rattle.uplink_weave.specs.Functions.{woven_frame, payload_in}
use Rattle.uplink_weave.specs.Woven.{frame_bytes}
use Rattle.uplink_frame.specs.declared.station.StationId.{StationId}
use Rattle.uplink_frame.specs.Station.{no_station, same_station}
use Rattle.life_table.specs.LifeTable.{LifeTable}
use Rattle.ground_core.specs.Update as updates
use Rattle.ground_core.specs.History.{Event, accepted, fill}
use Rattle.ground_core.specs.Airing.{Frame, frame_payload}
use Rattle.ground_core.specs.Broadcast.{StationEvent, history_of, frames}
use Rattle.receiver_core.specs.Reception.{Reception}
use Rattle.receiver_core.specs.Hearing.{HearRefusal, refusal_of_air}
use Rattle.fisb_link.specs.Hearing.{Hearing}
use Rattle.script_core.specs.Script.{Line, station, text, radar, blank, turn, hear, rx, show}
use Rattle.script_core.specs.Fields.{line_of}

-- the lines that some bytes are; each of those acted on is of its form
abbrev pub lines_of : List (List ℕ) → List Line
lines_of past = filter_map line_of past

-- the station that the lines named last
abbrev pub station_named : Line → StationId → StationId
station_named (station named) before = named
station_named line before = before

abbrev pub station_after : List Line → StationId
station_after [] = no_station
station_after (line ∷ past) = station_named line (station_after past)

-- the stations that have a ground: the unnamed one, and each that was named
abbrev pub is_one_of : StationId → List StationId → Bool
is_one_of place those = list_any (same_station place) those

abbrev pub with_station : Line → List StationId → List StationId
with_station (station named) before = if is_one_of named before then before else named ∷ before
with_station line before = before

abbrev pub stations : List Line → List StationId
stations [] = no_station ∷ []
stations (line ∷ past) = with_station line (stations past)

-- what a station was given, and the frames that it filled
abbrev pub event_of : Line → Option Event
event_of (text moment version chars) = Some (accepted moment (updates.text version chars))
event_of (radar moment version key cells) = Some (accepted moment (updates.block version key cells))
event_of (blank moment version product scale south numbers) =
    Some (accepted moment (updates.blanks version product scale south numbers))
event_of (turn moment slot) = Some (fill moment slot)
event_of line = None

-- each line's event is one of the station that was named last before it
abbrev pub at_station : StationId → Event → StationEvent
at_station place event = record { station = place; event = event }

abbrev pub broadcast : List Line → List StationEvent
broadcast [] = []
broadcast (line ∷ past) =
    cons_option (option_map (at_station (station_after past)) (event_of line)) (broadcast past)

-- the history of the station that was named last
abbrev pub events : List Line → List Event
events acted = history_of (station_after acted) (broadcast acted)

-- the frames that were sent, and a frame as it is on the air
abbrev pub sent_frames : LifeTable → List Line → List Frame
sent_frames table acted = frames table (broadcast acted)

abbrev pub air_of : Frame → List ℕ
air_of frame = woven_frame (frame_payload frame)

-- a frame as it is heard, where each of these places has a wrong byte: at every other place the
-- byte that was sent
abbrev pub byte_heard : List (ℕ × ℕ) → ℕ → ℕ → ℕ
byte_heard [] place sent = sent
byte_heard (one ∷ more) place sent = byte_heard more place (if one.0 == place then one.1 else sent)

unfoldable pub air_heard : List (ℕ × ℕ) → List ℕ → List ℕ
air_heard wrong air =
    map (λ place. byte_heard wrong place (slice_index air place)) (range_with_len 0 frame_bytes)

-- what was heard
abbrev pub hearing_of : Line → Option Hearing
hearing_of (hear moment frame wrong) = Some (record { frame = frame; moment = moment })
hearing_of line = None

abbrev pub hearings : List Line → List Hearing
hearings acted = filter_map hearing_of acted

-- what was received: the payload of a frame against which nothing stands
abbrev pub reception_by : Option HearRefusal → ℕ → Option (List ℕ) → Option Reception
reception_by (Some refusal) moment payload = None
reception_by None moment None = None
reception_by None moment (Some payload) = Some (record { moment = moment; payload = payload })

abbrev pub reception_from : List Reception → ℕ → List ℕ → Option Reception
reception_from past moment air =
    reception_by (refusal_of_air past moment air) moment (payload_in air)

abbrev pub received_frame : List Reception → ℕ → List (ℕ × ℕ) → Option Frame → Option Reception
received_frame past moment wrong None = None
received_frame past moment wrong (Some frame) =
    reception_from past moment (air_heard wrong (air_of frame))

-- the receptions after a line, where the frames that were sent and the receptions stood so before
-- it
abbrev pub receptions_after : List Frame → List Reception → Line → List Reception
receptions_after sent past (hear moment frame wrong) =
    cons_option (received_frame past moment wrong (slice_get sent frame)) past
receptions_after sent past (rx moment air) = cons_option (reception_from past moment air) past
receptions_after sent past line = past

abbrev pub receptions : LifeTable → List Line → List Reception
receptions table [] = []
receptions table (line ∷ past) =
    receptions_after (sent_frames table past) (receptions table past) line

-- the moment of a line that concerns the receiver, and that of the last such line
abbrev pub receiver_moment : Line → Option ℕ
receiver_moment (hear moment frame wrong) = Some moment
receiver_moment (rx moment air) = Some moment
receiver_moment (show moment) = Some moment
receiver_moment line = None

abbrev pub receiver_clock : List Line → Option ℕ
receiver_clock [] = None
receiver_clock (line ∷ past) = option_or (receiver_moment line) (receiver_clock past)
