-- What of some codes was read, and that reading goes on with the codes after.
use Rattle.std.specs.Prelude.{◌≡◌, ℕ, Bool, true, false, List, [], ◌∷◌, ◌++◌, filter}
use Rattle.dlac_text.specs.Pieces.{pieces_of}
use Rattle.dlac_text.specs.Reports.{has_characters, texts_between}

-- the reports that have ended, the text after them, and whether a TAB was read last
pub record Reading : Type 0 where
  pub reports : List (List ℕ)
  pub text : List ℕ
  pub is_tab : Bool

-- texts, the first one lengthened at its front
abbrev pub lengthened_texts : List ℕ → List (List ℕ) → List (List ℕ)
lengthened_texts front [] = front ∷ []
lengthened_texts front (text ∷ texts) = (front ++ text) ∷ texts

-- the reports of codes that follow a text
abbrev pub reports_from : List ℕ → List ℕ → List (List ℕ)
reports_from text codes =
    filter has_characters (lengthened_texts text (texts_between (pieces_of codes)))

-- the codes that follow a TAB or none
abbrev pub after_tab : Bool → List ℕ → List ℕ
after_tab true codes = 28 ∷ codes
after_tab false codes = codes

-- the reports of all, where these codes follow
abbrev pub reports_with : Reading → List ℕ → List (List ℕ)
reports_with reading codes =
    reading.reports ++ reports_from reading.text (after_tab reading.is_tab codes)

-- these codes were read: what follows gives the same reports as they and what follows gave before
abbrev pub HasRead : List ℕ → Reading → Reading → Type 0
HasRead codes old new = (more : List ℕ) → reports_with new more ≡ reports_with old (codes ++ more)
