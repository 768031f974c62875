-- The text of a refused line.
use Rattle.std.specs.Prelude.{ℕ, List, [], ◌∷◌, ◌++◌, codes, decimal}
use Rattle.life_table.specs.declared.fault.RowFault.{RowFault}
use Rattle.life_table.specs.declared.fault.RowFault.TheVariants as rows
use Rattle.refusal_core.specs.declared.reason.Reason.{Reason}
use Rattle.refusal_core.specs.declared.reason.Reason.TheVariants as reasons

-- words and numbers with a space between them, on a line
abbrev pub line_of_words : List (List ℕ) → List ℕ
line_of_words [] = codes "\n"
line_of_words (word ∷ []) = word ++ codes "\n"
line_of_words (word ∷ next ∷ more) = word ++ (codes " " ++ line_of_words (next ∷ more))

-- what is wrong with a row of the life table
abbrev pub row_word : RowFault → List ℕ
row_word rows.Shape = codes "shape"
row_word rows.Version = codes "version"
row_word rows.Late = codes "late"
row_word rows.Rows = codes "rows"
row_word rows.Word = codes "word"
row_word rows.Twice = codes "twice"
row_word rows.As = codes "as"
row_word rows.Words = codes "words"
row_word rows.Form = codes "form"
row_word rows.Life = codes "life"
row_word rows.Product = codes "product"

-- the reason, in words and numbers
abbrev pub reason_words : Reason → List (List ℕ)
reason_words reasons.TableLong = codes "tablelong" ∷ []
reason_words reasons.NoTable = codes "notable" ∷ []
reason_words reasons.NotToml = codes "toml" ∷ []
reason_words (reasons.BadRow row why) = codes "row" ∷ decimal row ∷ row_word why ∷ []
reason_words reasons.LineLong = codes "linelong" ∷ []
reason_words reasons.Syntax = codes "syntax" ∷ []
reason_words reasons.NotHere = codes "nothere" ∷ []
reason_words reasons.Station = codes "station" ∷ []
reason_words (reasons.Clock kept) = codes "clock" ∷ decimal kept ∷ []
reason_words reasons.NoFrame = codes "noframe" ∷ []
reason_words reasons.Early = codes "early" ∷ []
reason_words reasons.Late = codes "late" ∷ []
reason_words reasons.Frames = codes "frames" ∷ []
reason_words (reasons.BadCharacter place) = codes "character" ∷ decimal place ∷ []
reason_words reasons.TextLong = codes "textlong" ∷ []
reason_words reasons.FewWords = codes "words" ∷ []
reason_words reasons.Unlisted = codes "unlisted" ∷ []
reason_words reasons.BadBlock = codes "block" ∷ []
reason_words reasons.Coarse = codes "coarse" ∷ []
reason_words reasons.Ahead = codes "ahead" ∷ []
reason_words reasons.Expired = codes "expired" ∷ []
reason_words (reasons.NotNewer kept) = codes "notnewer" ∷ decimal kept ∷ []
reason_words reasons.NoFile = codes "nofile" ∷ []

abbrev pub refusal_text : ℕ → Reason → List ℕ
refusal_text line reason = line_of_words (codes "refused" ∷ decimal line ∷ reason_words reason)
