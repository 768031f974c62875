-- How a payload is read: the pieces that its six-bit codes spell, and the texts between the ends.
use Rattle.std.specs.Prelude.{◌≡◌, ℕ, Bool, true, false, ◌==◌, not, List, [], ◌∷◌, map, replicate}
use Rattle.std.specs.Prelude.{filter, length}
use Rattle.std.specs.List.{flat_map, slice_split}
use Rattle.dlac_text.specs.Alphabet.{character_of}
use Rattle.dlac_text.specs.SixBits.{six_bit_groups}
use Rattle.dlac_text.specs.Pieces.{Piece, character, spaces, end_of_report, Spells, pieces_of}

abbrev pub is_end : Piece → Bool
is_end (character code) = false
is_end (spaces number) = false
is_end (end_of_report code) = true

-- the text that a piece stands for; an end stands for none
abbrev pub text_of : Piece → List ℕ
text_of (character code) = character_of code ∷ []
text_of (spaces number) = replicate number 32
text_of (end_of_report code) = []

-- the texts between the ends, the empty ones too
abbrev pub texts_between : List Piece → List (List ℕ)
texts_between pieces = map (flat_map text_of) (slice_split is_end pieces)

-- whether a text is not empty
abbrev pub has_characters : List ℕ → Bool
has_characters text = not (length text == 0)

-- the reports of some pieces: the texts between the ends, the empty ones left out
abbrev pub reports_among : List Piece → List (List ℕ)
reports_among pieces = filter has_characters (texts_between pieces)

-- the reports of a payload are those of the pieces that its codes spell
unfoldable pub reports_of : List ℕ → List (List ℕ)
reports_of payload = reports_among (pieces_of (six_bit_groups payload))

-- the same, in whatever way the pieces were found
abbrev pub HasReportsOfItsPieces : List ℕ → Type 0
HasReportsOfItsPieces payload =
    (pieces : List Piece) → Spells (six_bit_groups payload) pieces
    → reports_of payload ≡ reports_among pieces
