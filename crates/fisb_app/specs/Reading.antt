-- The first reason that stands against a line after the lines acted on, the newest first.
use Rattle.std.specs.Prelude.{ℕ, ◌+◌, Bool, true, false, ◌||◌, nat_lt, nat_le, if◌then◌else◌, List}
use Rattle.std.specs.Prelude.{length, Option, Some, None, option_map, slice_get}
use Rattle.std.specs.Option.{option_or}
use Rattle.dlac_text.specs.Refusal.{TextRefusal, bad_character, too_long}
use Rattle.life_table.specs.LifeTable.{LifeTable}
use Rattle.text_reports.specs.TextKey.{KeyFault, few_words, unlisted}
use Rattle.uplink_frame.specs.declared.station.StationId.{StationId}
use Rattle.ground_core.specs.Update as updates
use Rattle.ground_core.specs.History.{items}
use Rattle.ground_core.specs.Airing.{Frame}
use Rattle.ground_core.specs.Refusal.{GiveRefusal, bad_text, no_key, bad_block, coarse, ahead}
use Rattle.ground_core.specs.Refusal.{expired, not_newer, no_file, give_refusal}
use Rattle.segment_core.specs.Store.{last_above}
use Rattle.ground_core.specs.OnAir.{history_clock}
use Rattle.receiver_core.specs.Reception.{Reception}
use Rattle.receiver_core.specs.Hearing as heard
use Rattle.script_core.specs.Script.{Line, empty, station, text, radar, blank, turn, hear, rx, show}
use Rattle.refusal_core.specs.declared.reason.Reason.{Reason}
use Rattle.refusal_core.specs.declared.reason.Reason.TheVariants.{NotHere, Station, Clock, NoFrame}
use Rattle.refusal_core.specs.declared.reason.Reason.TheVariants.{Early, Late, Frames, BadCharacter}
use Rattle.refusal_core.specs.declared.reason.Reason.TheVariants.{TextLong, FewWords, Unlisted}
use Rattle.refusal_core.specs.declared.reason.Reason.TheVariants.{BadBlock}
use Rattle.refusal_core.specs.declared.reason.Reason.TheVariants.{Coarse, Ahead, Expired, NotNewer}
use Rattle.refusal_core.specs.declared.reason.Reason.TheVariants.{NoFile}
use Rattle.fisb_app.specs.declared.party.Party.{Party}
use Rattle.fisb_app.specs.declared.party.Party.TheVariants.{Link, Ground, Receive, Gdl}
use Rattle.fisb_app.specs.Past.{events, is_one_of, receiver_clock, receiver_moment, receptions}
use Rattle.fisb_app.specs.Past.{sent_frames, station_after, stations}

-- the most frames of a run
abbrev pub frame_limit : ℕ
frame_limit = 65536

-- which lines a command takes
abbrev pub is_taken : Party → Line → Bool
is_taken Link (rx moment air) = false
is_taken Link line = true
is_taken Ground (hear moment frame wrong) = false
is_taken Ground (rx moment air) = false
is_taken Ground (show moment) = false
is_taken Ground line = true
is_taken Receive empty = true
is_taken Receive (rx moment air) = true
is_taken Receive (show moment) = true
is_taken Receive line = false
is_taken Gdl empty = true
is_taken Gdl (rx moment air) = true
is_taken Gdl line = false

abbrev pub party_refusal : Party → Line → Option Reason
party_refusal party line = if is_taken party line then None else Some NotHere

-- a line that gives the ground an update
abbrev pub is_update : Line → Bool
is_update (text moment version chars) = true
is_update (radar moment version key cells) = true
is_update (blank moment version product scale south numbers) = true
is_update line = false

-- Moments of the receiver never fall, and those of one station do not; each has a clock of its own.
abbrev pub earlier_than : Option ℕ → Option ℕ → Option ℕ
earlier_than None last = None
earlier_than (Some moment) last = last_above last moment

abbrev pub earlier_refusal : Option ℕ → Option ℕ → Option Reason
earlier_refusal own last = option_map Clock (earlier_than own last)

-- the reasons that look at no content of a line, nor at what a station was given
abbrev pub front_refusal : Party → Option ℕ → Line → Option Reason
front_refusal party last line =
    option_or (party_refusal party line) (earlier_refusal (receiver_moment line) last)

-- the most stations that are named, beside the unnamed one
abbrev pub station_limit : ℕ
station_limit = 16

abbrev pub station_refusal : List StationId → StationId → Option Reason
station_refusal before named = if is_one_of named before || nat_le (length before) station_limit
    then None else Some Station

-- the reason of a refused update
abbrev pub reason_of_text : TextRefusal → Reason
reason_of_text (bad_character place) = BadCharacter place
reason_of_text too_long = TextLong

abbrev pub reason_of_key : KeyFault → Reason
reason_of_key few_words = FewWords
reason_of_key unlisted = Unlisted

abbrev pub reason_of_update : GiveRefusal → Reason
reason_of_update (bad_text cause) = reason_of_text cause
reason_of_update (no_key fault) = reason_of_key fault
reason_of_update bad_block = BadBlock
reason_of_update coarse = Coarse
reason_of_update ahead = Ahead
reason_of_update expired = Expired
reason_of_update (not_newer kept) = NotNewer kept
reason_of_update no_file = NoFile

-- a station's ground takes nothing before its last event
abbrev pub station_clock_refusal : List Line → ℕ → Option Reason
station_clock_refusal acted moment =
    option_map Clock (last_above (history_clock (events acted)) moment)

abbrev pub update_refusal : LifeTable → List Line → ℕ → updates.Update → Option Reason
update_refusal table acted moment update =
    option_or (station_clock_refusal acted moment)
    (option_map reason_of_update
    (give_refusal table (items table (station_after acted) (events acted)) moment update))

abbrev pub turn_refusal : ℕ → List Line → ℕ → Option Reason
turn_refusal count acted moment = option_or (station_clock_refusal acted moment)
    (if nat_lt count frame_limit then None else Some Frames)

-- a frame is heard not before it was sent, and not too late
abbrev pub frame_refusal : ℕ → ℕ → Option Frame → Option Reason
frame_refusal allowed moment None = Some NoFrame
frame_refusal allowed moment (Some frame) = if nat_lt moment frame.moment then Some Early
    else (if nat_lt (frame.moment + allowed) moment then Some Late else None)

-- a receiver takes nothing before its last reception; its clock in the script keeps this
abbrev pub receiver_refusal : List Reception → ℕ → Option Reason
receiver_refusal past moment = option_map Clock (last_above (heard.clock_of past) moment)

-- frames for displays are told of no other frame
abbrev pub reception_refusal : Party → List Reception → ℕ → Option Reason
reception_refusal Gdl past moment = None
reception_refusal party past moment = receiver_refusal past moment

-- what stands against the content of a line
abbrev pub own_refusal : Party → LifeTable → List Line → Line → Option Reason
own_refusal party table acted (station named) = station_refusal (stations acted) named
own_refusal party table acted (text moment version chars) =
    update_refusal table acted moment (updates.text version chars)
own_refusal party table acted (radar moment version key cells) =
    update_refusal table acted moment (updates.block version key cells)
own_refusal party table acted (blank moment version product scale south numbers) =
    update_refusal table acted moment (updates.blanks version product scale south numbers)
own_refusal party table acted (turn moment slot) =
    turn_refusal (length (sent_frames table acted)) acted moment
own_refusal party table acted (hear moment frame wrong) =
    option_or (frame_refusal table.late moment (slice_get (sent_frames table acted) frame))
    (receiver_refusal (receptions table acted) moment)
own_refusal party table acted (rx moment air) =
    reception_refusal party (receptions table acted) moment
own_refusal party table acted (show moment) = receiver_refusal (receptions table acted) moment
own_refusal party table acted line = None

-- the first reason against a line of its form
abbrev pub refusal_of : Party → LifeTable → List Line → Line → Option Reason
refusal_of party table acted line =
    option_or (front_refusal party (receiver_clock acted) line) (own_refusal party table acted line)
