-- Which streams a deframer stands for.
use Rattle.std.specs.Prelude.{◌≡◌, ◌≢◌, ⊤, ℕ, ◌-◌, ◌<◌, List, [], ◌∷◌, ◌++◌, length, take}
use Rattle.std.specs.Prelude.{Option, Some, None, MatchBool, MatchOption}
use Rattle.std.specs.Borrow.{follows_so, Fml, MutBor}
use mathlib.Core.Option.{none}
use Rattle.gdl90_core.specs.contracts.deframer.Deframer.{the_row}
use Rattle.gdl90_core.specs.declared.piece_bytes.PieceBytes.{PieceBytes}
use Rattle.gdl90_core.specs.declared.deframer.Stage.{Stage}
use Rattle.gdl90_core.specs.declared.deframer.Stage.TheVariants.{Outside, Start, Inside, Escaping}
use Rattle.gdl90_core.specs.declared.deframer.Stage.TheVariants.{Broken}
use Rattle.gdl90_core.specs.declared.deframer.Deframer.{Deframer}
use Rattle.gdl90_core.specs.declared.pieces.Framed.{Framed}
use Rattle.gdl90_core.specs.CheckSequence.{remainder}
use Rattle.gdl90_core.specs.Framing.{escaped_bytes}
use Rattle.gdl90_core.specs.Stream.{behind_flag, ended_piece}
use Rattle.gdl90_core.specs.Reading.{EscapesNothing, reading_of, Says}

-- these bytes are kept, with the remainder of all but the last two of them
pub record KeepsAll (kept : PieceBytes) (bytes : List ℕ) : Type 0 where
  pub bytes_are : kept.bytes.items ≡ bytes
  pub remainder_is : kept.remainder ≡ remainder (take (length bytes - 2) bytes)

-- the bytes are kept, or that there were more than 1,024
abbrev pub Keeps : PieceBytes → List ℕ → Type 0
Keeps kept bytes = MatchBool kept.too_long (1024 < length bytes) (KeepsAll kept bytes)

-- the piece after the last flag is these bytes, escaped, and what is put after them
abbrev pub IsRead : PieceBytes → Option (List ℕ) → List ℕ → Type 0
IsRead kept piece behind =
    (bytes : List ℕ) × (piece ≡ Some (escaped_bytes bytes ++ behind)) × Keeps kept bytes

-- what is kept at a stage of the piece after the last flag
abbrev pub IsAt : Stage → PieceBytes → Option (List ℕ) → Type 0
IsAt Outside kept piece = piece ≡ None
IsAt Start kept piece = piece ≡ Some []
IsAt Inside kept piece = (piece ≢ Some []) × IsRead kept piece []
IsAt Escaping kept piece = IsRead kept piece (0x7D ∷ [])
IsAt Broken kept piece =
    (front : List ℕ) × (next : ℕ) × (rest : List ℕ)
    × (piece ≡ Some (escaped_bytes front ++ 0x7D ∷ next ∷ rest)) × EscapesNothing (next ∷ rest)

-- the deframer keeps what the stream's end needs
abbrev pub StandsFor : Deframer → List ℕ → Type 0
StandsFor deframer stream = IsAt deframer.stage deframer.kept (behind_flag stream)

-- the new deframer stands for each stream that the old one stands for, and the byte after it
abbrev pub GoesOn : Deframer → ℕ → Deframer → Type 0
GoesOn old byte new = (stream : List ℕ) → StandsFor old stream → StandsFor new (stream ++ byte ∷ [])

-- the answer says what the piece says, and nothing where there is none
abbrev pub PieceAnswers : Option (List ℕ) → Option Framed → Type 0
PieceAnswers ended answer = MatchOption answer
    (ended ≡ None)
    (λ framed. (piece : List ℕ) × (ended ≡ Some piece) × Says piece (reading_of framed))

-- the answer at this byte after the stream: what the piece says that it ends, and nothing where it
-- ends none
abbrev pub Answers : List ℕ → ℕ → Option Framed → Type 0
Answers stream byte answer = PieceAnswers (ended_piece stream byte) answer

-- the deframer ends as P says once what is lent of it is given back
abbrev pub EndsAs : MutBor Deframer → (Deframer → Type 0) → Fml
EndsAs deframer P = follows_so the_row the_row deframer.ghost_name none (λ _ _. ⊤) P
