-- How the reports of the codes that are left follow the text so far.
use Rattle.std.proofs.Common.{◌≡◌, ◌≢◌, ◌<◌, ◌⊎◌, ℕ, false, eqb, List, [], ◌∷◌, ◌++◌, length, map, replicate, filter, inl, inr, suc, refl, sym, ap, ◌∙◌, append_assoc, append-nil, arith}
use Rattle.std.specs.List.{flat_map, slice_split, onto_first}
use Rattle.std.proofs.lemmas.Bool.Decides.{nat_tests}
use Rattle.dlac_text.specs.Alphabet.{character_of}
use Rattle.dlac_text.specs.Pieces.{Piece, character, spaces, end_of_report, pieces_of}
use Rattle.dlac_text.specs.Reports.{is_end, text_of, texts_between, has_characters}
use Rattle.dlac_text.specs.Reading.{lengthened_texts, reports_from}
use Rattle.dlac_text.proofs.PieceLemmas.{pieces_of-other, piece_of-end, piece_of-character}

-- a piece before the first part lengthens the text of that part
texts-onto_first :
    (piece : Piece) (parts : List (List Piece)) → map (flat_map text_of) (onto_first piece parts) ≡ lengthened_texts (text_of piece) (map (flat_map text_of) parts)
texts-onto_first piece [] = ap (λ t. t ∷ []) (append-nil (text_of piece))
texts-onto_first piece (part ∷ parts) = refl

texts_between-character :
    (code : ℕ) (more : List Piece) → texts_between (character code ∷ more) ≡ lengthened_texts (character_of code ∷ []) (texts_between more)
texts_between-character code more = texts-onto_first (character code) (slice_split is_end more)

texts_between-spaces :
    (number : ℕ) (more : List Piece) → texts_between (spaces number ∷ more) ≡ lengthened_texts (replicate number 32) (texts_between more)
texts_between-spaces number more = texts-onto_first (spaces number) (slice_split is_end more)

lengthened_texts-lengthened_texts : (a b : List ℕ) (texts : List (List ℕ)) → lengthened_texts a (lengthened_texts b texts) ≡ lengthened_texts (a ++ b) texts
lengthened_texts-lengthened_texts a b [] = refl
lengthened_texts-lengthened_texts a b (t ∷ ts) = ap (λ x. x ∷ ts) (sym (append_assoc a b t))

-- nothing in front changes nothing, but for an empty text
filter-lengthened_texts-nil : (texts : List (List ℕ)) → filter has_characters (lengthened_texts [] texts) ≡ filter has_characters texts
filter-lengthened_texts-nil [] = refl
filter-lengthened_texts-nil (t ∷ ts) = refl

filter-cons : (text : List ℕ) (texts : List (List ℕ)) → filter has_characters (text ∷ texts) ≡ filter has_characters (text ∷ []) ++ filter has_characters texts
filter-cons [] texts = refl
filter-cons (x ∷ text) texts =
    let some : eqb (suc (length text)) 0 ≡ false = grind (arith, nat_tests) in
    rw some refl

pub from_start : (codes : List ℕ) → reports_from [] codes ≡ filter has_characters (texts_between (pieces_of codes))
from_start codes = filter-lengthened_texts-nil (texts_between (pieces_of codes))

pub from_nothing : (text codes : List ℕ) → length codes < 1 → reports_from text codes ≡ filter has_characters (text ∷ [])
from_nothing text [] h = ap (λ t. filter has_characters (t ∷ [])) (append-nil text)
from_nothing text (code ∷ codes) h = absurd (omega arith)

from_end :
    (text : List ℕ) (code : ℕ) (pieces : List Piece) → filter has_characters (lengthened_texts text (texts_between (end_of_report code ∷ pieces))) ≡ filter has_characters (text ∷ []) ++ filter has_characters (lengthened_texts [] (texts_between pieces))
from_end text code pieces =
    ap (λ t. filter has_characters (t ∷ texts_between pieces)) (append-nil text) ∙ filter-cons text (texts_between pieces) ∙ ap (λ ts. filter has_characters (text ∷ []) ++ ts) (sym (filter-lengthened_texts-nil (texts_between pieces)))

from_symbol :
    (text more : List ℕ) (texts all : List (List ℕ)) → all ≡ lengthened_texts more texts → filter has_characters (lengthened_texts text all) ≡ filter has_characters (lengthened_texts (text ++ more) texts)
from_symbol text more texts all e = ap (λ ts. filter has_characters (lengthened_texts text ts)) e ∙ ap (filter has_characters) (lengthened_texts-lengthened_texts text more texts)

pub from_end_code :
    (text more : List ℕ) (code : ℕ) → (code ≡ 0) ⊎ (code ≡ 29) → reports_from text (code ∷ more) ≡ filter has_characters (text ∷ []) ++ reports_from [] more
from_end_code text more code h =
    let other : code ≢ 28 = elim h [ inl zero ↦ omega arith | inr other ↦ omega arith ] in
    ap (λ ps. filter has_characters (lengthened_texts text (texts_between ps))) (pieces_of-other code more other ∙ ap (λ p. p ∷ pieces_of more) (piece_of-end code h)) ∙ from_end text code (pieces_of more)

pub from_tab : (text more : List ℕ) (number : ℕ) → reports_from text (28 ∷ number ∷ more) ≡ reports_from (text ++ replicate number 32) more
from_tab text more number =
    from_symbol text (replicate number 32) (texts_between (pieces_of more)) (texts_between (spaces number ∷ pieces_of more)) (texts_between-spaces number (pieces_of more))

pub from_character :
    (text more : List ℕ) (code : ℕ) → code ≢ 0 → code ≢ 28 → code ≢ 29 → reports_from text (code ∷ more) ≡ reports_from (text ++ character_of code ∷ []) more
from_character text more code h i j =
    ap (λ ps. filter has_characters (lengthened_texts text (texts_between ps))) (pieces_of-other code more i ∙ ap (λ p. p ∷ pieces_of more) (piece_of-character code h j)) ∙ from_symbol text (character_of code ∷ []) (texts_between (pieces_of more)) (texts_between (character code ∷ pieces_of more)) (texts_between-character code (pieces_of more))
