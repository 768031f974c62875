-- What a list of codes spells: characters, spaces and ends of reports, one after another.
use Rattle.std.specs.Prelude.{◌≡◌, ◌≢◌, ◌⊎◌, ⊤, ℕ, ◌||◌, ◌==◌, if◌then◌else◌, List, [], ◌∷◌, ◌++◌}
use Rattle.std.specs.Prelude.{All}
use Rattle.std.specs.List.{flat_map}

-- a piece of a list of codes: a symbol, which is a character or a number of spaces, or an end
pub data Piece : Type 0 where
  character : (code : ℕ) → Piece
  spaces : (number : ℕ) → Piece
  end_of_report : (code : ℕ) → Piece

-- a report ends with the code 0 or 29; a character is any other code but the TAB 28; any code is a
-- number of spaces
abbrev pub IsPiece : Piece → Type 0
IsPiece (character code) = (code ≢ 0) × (code ≢ 28) × (code ≢ 29)
IsPiece (spaces number) = ⊤
IsPiece (end_of_report code) = (code ≡ 0) ⊎ (code ≡ 29)

-- the codes of a piece: for spaces the TAB and their number
abbrev pub spelling : Piece → List ℕ
spelling (character code) = code ∷ []
spelling (spaces number) = 28 ∷ number ∷ []
spelling (end_of_report code) = code ∷ []

-- the codes are those of the pieces, one after another, and then nothing, or a last lone TAB, which
-- stands for nothing
abbrev pub Spells : List ℕ → List Piece → Type 0
Spells codes pieces = All IsPiece pieces
    × ((codes ≡ flat_map spelling pieces) ⊎ (codes ≡ flat_map spelling pieces ++ 28 ∷ []))

-- there is a list of pieces that the codes spell, and no other
abbrev pub IsCutInOneWay : List ℕ → Type 0
IsCutInOneWay codes = (pieces : List Piece) × Spells codes pieces
    × ((others : List Piece) → Spells codes others → others ≡ pieces)

-- the piece of a code other than the TAB
abbrev pub piece_of : ℕ → Piece
piece_of code = if code == 0 || code == 29 then end_of_report code else character code

-- the pieces that some codes spell
abbrev pub pieces_of : List ℕ → List Piece
pieces_of [] = []
pieces_of (code ∷ []) = if code == 28 then [] else piece_of code ∷ []
pieces_of (code ∷ next ∷ more) =
    if code == 28 then spaces next ∷ pieces_of more else piece_of code ∷ pieces_of (next ∷ more)
