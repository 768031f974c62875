-- What a piece between two flags says: a message, or its first damage.
use Rattle.std.specs.Prelude.{◌≡◌, ◌≢◌, ⊤, ℕ, ◌+◌, ◌*◌, ◌<◌, ◌≤◌, List, [], ◌∷◌, ◌++◌, length}
use Rattle.gdl90_core.specs.declared.pieces.Damage.{Damage}
use Rattle.gdl90_core.specs.declared.pieces.Damage.TheVariants.{BadEscape, Short, TooLong, BadFcs}
use Rattle.gdl90_core.specs.declared.pieces.Framed.{Framed}
use Rattle.gdl90_core.specs.declared.pieces.Framed.TheVariants.{Message, Damaged}
use Rattle.gdl90_core.specs.CheckSequence.{remainder}
use Rattle.gdl90_core.specs.Framing.{escaped_bytes, with_fcs}

-- what a piece says
pub data Reading : Type 0 where
  message : (bytes : List ℕ) → Reading
  damaged : (damage : Damage) → Reading

-- what is lent of it
abbrev pub reading_of : Framed → Reading
reading_of (Message bytes) = message bytes.now
reading_of (Damaged damage) = damaged damage

-- what follows a control-escape does not begin with 5D or 5E
abbrev pub EscapesNothing : List ℕ → Type 0
EscapesNothing [] = ⊤
EscapesNothing (next ∷ more) = (next ≢ 0x5D) × (next ≢ 0x5E)

-- read from the left, the piece has a control-escape that neither 5D nor 5E follows
pub record HasBadEscape (piece : List ℕ) : Type 0 where
  pub front : List ℕ
  pub rest : List ℕ
  pub escape : piece ≡ escaped_bytes front ++ 0x7D ∷ rest
  pub bad : EscapesNothing rest

-- what unescaped bytes say: a message of at most 1,022 bytes with its frame check
-- sequence, or a damage
abbrev pub BytesSay : List ℕ → Reading → Type 0
BytesSay bytes (message text) = (bytes ≡ with_fcs text) × (0 < length text) × (length text ≤ 1022)
BytesSay bytes (damaged BadEscape) = ⊥
BytesSay bytes (damaged Short) = length bytes < 3
BytesSay bytes (damaged TooLong) = 1024 < length bytes
BytesSay bytes (damaged BadFcs) =
    (2 < length bytes) × (length bytes ≤ 1024)
    × ((front : List ℕ) (low high : ℕ) → bytes ≡ front ++ low ∷ high ∷ []
    → low + 256 * high ≢ remainder front)

-- what a piece says
abbrev pub Says : List ℕ → Reading → Type 0
Says piece (damaged BadEscape) = HasBadEscape piece
Says piece reading = (bytes : List ℕ) × (piece ≡ escaped_bytes bytes) × BytesSay bytes reading

-- what each piece says, in order
abbrev pub SayInOrder : List (List ℕ) → List Reading → Type 0
SayInOrder [] [] = ⊤
SayInOrder [] (reading ∷ more) = ⊥
SayInOrder (piece ∷ pieces) [] = ⊥
SayInOrder (piece ∷ pieces) (reading ∷ more) = Says piece reading × SayInOrder pieces more
