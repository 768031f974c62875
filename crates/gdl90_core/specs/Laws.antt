-- The laws of remainders, of pieces and of what they say.
use Rattle.std.specs.Prelude.{◌≡◌, ◌≢◌, ℕ, ◌<◌, ◌≤◌, ◌↔◌, List, [], ◌∷◌, ◌++◌, All, length, map}
use Rattle.std.specs.Prelude.{Option}
use Rattle.std.specs.List.{flat_map}
use Rattle.std.specs.Option.{option_map, option_to_list}
use Rattle.bit_fields.specs.Bits.{AreBytes}
use Rattle.gdl90_core.specs.CheckSequence.{IsRemainder, remainder}
use Rattle.gdl90_core.specs.Framing.{framed_message}
use Rattle.gdl90_core.specs.Stream.{pieces_of, ended_piece}
use Rattle.gdl90_core.specs.Reading.{Reading, message, reading_of, Says, SayInOrder}
use Rattle.gdl90_core.specs.StandsFor.{Answers}
use Rattle.gdl90_core.specs.declared.pieces.Framed.{Framed}

-- a message has one remainder, and it is that of the long division
abbrev pub OneRemainder : Type 0
OneRemainder =
    (text : List ℕ) (rest : ℕ) → AreBytes text → IsRemainder text rest ↔ (rest ≡ remainder text)

-- a byte more brings the piece that it ends, and changes no other
abbrev pub PiecesGoOn : Type 0
PiecesGoOn = (stream : List ℕ) (byte : ℕ)
    → pieces_of (stream ++ byte ∷ []) ≡ pieces_of stream ++ option_to_list (ended_piece stream byte)

-- the answers up to a byte, in order, are what the pieces of the stream up to it say
abbrev pub AnswersInOrder : Type 0
AnswersInOrder = (stream : List ℕ) (byte : ℕ) (answer : Option Framed) (readings : List Reading)
    → Answers stream byte answer → SayInOrder (pieces_of stream) readings
    → SayInOrder (pieces_of (stream ++ byte ∷ []))
    (readings ++ option_to_list (option_map reading_of answer))

-- the piece says this, and nothing else
pub record SaysOnly (piece : List ℕ) (reading : Reading) : Type 0 where
  pub says : Says piece reading
  pub only : (other : Reading) → Says piece other → other ≡ reading

-- a piece of bytes between two flags says one thing
abbrev pub OneReading : Type 0
OneReading = (piece : List ℕ) → AreBytes piece → All (λ byte. byte ≢ 0x7E) piece
    → (reading : Reading) × SaysOnly piece reading

-- a message that can be sent
pub record FitsFrame (text : List ℕ) : Type 0 where
  pub not_empty : 0 < length text
  pub fits : length text ≤ 1022

-- framed messages, one after another, say these messages, and nothing else
abbrev pub MessagesReadBack : Type 0
MessagesReadBack = (texts : List (List ℕ)) (readings : List Reading) → All FitsFrame texts
    → SayInOrder (pieces_of (flat_map framed_message texts)) readings
    ↔ (readings ≡ map message texts)
