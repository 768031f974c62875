-- How a report is shown on one line of plain text, and how such a text is read back.
use Rattle.std.specs.Prelude.{ℕ, Bool, not, ◌&&◌, ◌==◌, if◌then◌else◌, List, [], ◌∷◌, ◌++◌, Option}
use Rattle.std.specs.Prelude.{None, Some}

-- newline is shown as a backslash and an n, U+001A as a backslash and a z, any other character as
-- itself
abbrev pub plain_character : ℕ → List ℕ
plain_character character =
    if character == 10 then 92 ∷ 110 ∷ [] else if character == 26 then 92 ∷ 122 ∷ []
    else character ∷ []

-- a character that is shown as itself
abbrev pub is_itself : ℕ → Bool
is_itself character = not (character == 10) && not (character == 26)

abbrev pub plain_text : List ℕ → List ℕ
plain_text [] = []
plain_text (character ∷ more) = plain_character character ++ plain_text more

-- a text with a front put before it, where there is one
abbrev pub prefixed_text : List ℕ → Option (List ℕ) → Option (List ℕ)
prefixed_text front None = None
prefixed_text front (Some text) = Some (front ++ text)

-- what a character after a backslash stands for, before the rest
abbrev pub unescaped_text : ℕ → Option (List ℕ) → Option (List ℕ)
unescaped_text character rest =
    if character == 110 then prefixed_text (10 ∷ []) rest
    else if character == 122 then prefixed_text (26 ∷ []) rest else None

-- the text that a plain text shows; None where a backslash is not followed by n or z
abbrev pub text_of_plain : List ℕ → Option (List ℕ)
text_of_plain [] = Some []
text_of_plain (character ∷ []) = if character == 92 then None else Some (character ∷ [])
text_of_plain (character ∷ next ∷ more) =
    if character == 92 then unescaped_text next (text_of_plain more)
    else prefixed_text (character ∷ []) (text_of_plain (next ∷ more))
