-- A message between two flags (Garmin 560-1058-00, Message Structure).
use Rattle.std.specs.Prelude.{ℕ, ◌/◌, ◌%◌, ◌==◌, if◌then◌else◌, List, [], ◌∷◌, ◌++◌}
use Rattle.std.specs.List.{flat_map}
use Rattle.gdl90_core.specs.CheckSequence.{remainder}

-- the flag 7E and the control-escape 7D are sent as 7D and the byte with its bit 5 turned
abbrev pub escaped_byte : ℕ → List ℕ
escaped_byte byte =
    if byte == 0x7E then 0x7D ∷ 0x5E ∷ [] else
    (if byte == 0x7D then 0x7D ∷ 0x5D ∷ [] else byte ∷ [])

abbrev pub escaped_bytes : List ℕ → List ℕ
escaped_bytes bytes = flat_map escaped_byte bytes

-- the message and its frame check sequence, least byte first
abbrev pub with_fcs : List ℕ → List ℕ
with_fcs message = message ++ (remainder message % 256) ∷ (remainder message / 256) ∷ []

-- the message as it is sent
abbrev pub framed_message : List ℕ → List ℕ
framed_message message = 0x7E ∷ escaped_bytes (with_fcs message) ++ 0x7E ∷ []
