-- The texts that lines give.
use Rattle.std.specs.Prelude.{ℕ, Bool, true, false, if◌then◌else◌, List, [], ◌∷◌, length, map}
use Rattle.std.specs.Prelude.{Option, Some, None, slice_get}
use Rattle.uplink_frame.specs.UplinkFrame.{header_in}
use Rattle.uplink_weave.specs.Functions.{counts_in, payload_in}
use Rattle.life_table.specs.LifeTable.{LifeTable}
use Rattle.picture_core.specs.Entry.{Entry}
use Rattle.picture_core.specs.Views.{shown_value}
use Rattle.ground_core.specs.Airing.{Frame, frame_after, used_room}
use Rattle.ground_core.specs.declared.air_frame.AirFrame.{AirFrame}
use Rattle.receiver_core.specs.Reception.{Reception, received_picture}
use Rattle.receiver_core.specs.UnreadParts.{unread_parts}
use Rattle.receiver_core.specs.Hearing.{HearRefusal, clock, lost, no_application, refusal_of_air}
use Rattle.gdl90_core.specs.Framing.{framed_message}
use Rattle.fisb_link.specs.LinkPicture.{link_picture}
use Rattle.script_core.specs.Script.{Line, turn, hear, rx, show}
use Rattle.script_core.specs.Printed.{sent_line, heard_lines, lost_line, noapp_line, picture_text}
use Rattle.fisb_app.specs.declared.party.Party.{Party}
use Rattle.fisb_app.specs.declared.party.Party.TheVariants.{Ground, Gdl}
use Rattle.fisb_app.specs.Past.{events, broadcast, hearings, station_after, sent_frames, air_of}
use Rattle.fisb_app.specs.Past.{air_heard, receptions}

-- a frame that was sent, as it is written; a ground alone writes its bytes on the air too
abbrev pub sent_frame : Frame → AirFrame
sent_frame frame = record {
  moment = frame.moment;
  slot = frame.slot;
  bodies = length frame.segments;
  used = used_room frame;
  air = air_of frame;
}

abbrev pub sent_text : Party → ℕ → Frame → List ℕ
sent_text Ground index frame = sent_line index (sent_frame frame) true
sent_text party index frame = sent_line index (sent_frame frame) false

-- what a reception says
abbrev pub heard_payload : LifeTable → List Reception → ℕ → List ℕ → Option (List ℕ) → List ℕ
heard_payload table past moment counts None = []
heard_payload table past moment counts (Some payload) =
    heard_lines moment (header_in payload) counts
    (unread_parts table past (record { moment = moment; payload = payload }))

-- or that a block of the frame is lost, or that its application data are not valid
abbrev pub heard_by : LifeTable → List Reception → ℕ → List ℕ → Option HearRefusal → List ℕ
heard_by table past moment air None =
    heard_payload table past moment (counts_in air) (payload_in air)
heard_by table past moment air (Some (clock kept)) = []
heard_by table past moment air (Some (lost block)) = lost_line moment block
heard_by table past moment air (Some no_application) = noapp_line moment

abbrev pub heard_text : LifeTable → List Reception → ℕ → List ℕ → List ℕ
heard_text table past moment air = heard_by table past moment air (refusal_of_air past moment air)

abbrev pub heard_frame : LifeTable → List Reception → ℕ → List (ℕ × ℕ) → Option Frame → List ℕ
heard_frame table past moment wrong None = []
heard_frame table past moment wrong (Some frame) =
    heard_text table past moment (air_heard wrong (air_of frame))

-- the picture of a moment, by the lines acted on
abbrev pub Shows : Type 0
Shows = LifeTable → List Line → ℕ → List Entry

-- the picture by the bytes that were heard
abbrev pub heard_picture : Shows
heard_picture table acted moment = received_picture table (receptions table acted) moment

-- What is claimed of the lines before a picture. Where it holds the picture is the one that is
-- promised, which knows no byte of a frame; elsewhere it is promised only that it is the picture by
-- the bytes.
abbrev pub Claim : Type 0
Claim = LifeTable → List Line → Bool

abbrev pub promised_picture : Claim → Shows → Shows
promised_picture claim promised table acted moment = if claim table acted
    then promised table acted moment else heard_picture table acted moment

-- the picture by what the lines gave, sent and heard
abbrev pub sent_picture : Shows
sent_picture table acted moment = link_picture table (broadcast acted) (hearings acted) moment

-- Message 7 for displays (Garmin 560-1058-00, Uplink Data Message) of the payload of a frame, which
-- tells no time of reception; nothing of a frame without a payload.
abbrev pub uplink_bytes : List ℕ → List ℕ
uplink_bytes payload = 7 ∷ 0xFF ∷ 0xFF ∷ 0xFF ∷ payload

abbrev pub display_bytes : Option (List ℕ) → List ℕ
display_bytes None = []
display_bytes (Some payload) = framed_message (uplink_bytes payload)

-- what a frame gives: a message for displays, or what a receiver says of it
abbrev pub rx_text : Party → LifeTable → List Reception → ℕ → List ℕ → List ℕ
rx_text Gdl table past moment air = display_bytes (payload_in air)
rx_text party table past moment air = heard_text table past moment air

-- what a line gives after the lines acted on, where `shows` gives the pictures
abbrev pub given_text : Party → Shows → LifeTable → List Line → Line → List ℕ
given_text party shows table past (turn moment slot) =
    sent_text party (length (sent_frames table past))
    (frame_after table (station_after past) (events past) moment slot)
given_text party shows table past (hear moment frame wrong) =
    heard_frame table (receptions table past) moment wrong
    (slice_get (sent_frames table past) frame)
given_text party shows table past (rx moment air) =
    rx_text party table (receptions table past) moment air
given_text party shows table past (show moment) =
    picture_text moment (map shown_value (shows table past moment))
given_text party shows table past line = []
