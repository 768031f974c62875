-- The lines of an input.
use Rattle.std.specs.Prelude.{ℕ, Bool, ◌&&◌, nat_lt, ◌==◌, if◌then◌else◌, List, [], ◌∷◌, length}
use Rattle.std.specs.List.{slice_split}

-- what stands between the newlines, byte 10
abbrev pub parts_of : List ℕ → List (List ℕ)
parts_of text = slice_split (λ b. b == 10) text

-- Each part but the last is a line. The last one is a line too where the input ended after it,
-- unless it is empty.
abbrev pub lines_of_parts : Bool → List (List ℕ) → List (List ℕ)
lines_of_parts ended [] = []
lines_of_parts ended (last ∷ []) = if ended && nat_lt 0 (length last) then last ∷ [] else []
lines_of_parts ended (line ∷ next ∷ more) = line ∷ lines_of_parts ended (next ∷ more)

abbrev pub lines_in : Bool → List ℕ → List (List ℕ)
lines_in ended text = lines_of_parts ended (parts_of text)

-- the part of a line after the last newline, where more of it may come
abbrev pub last_part : List (List ℕ) → List ℕ
last_part [] = []
last_part (last ∷ []) = last
last_part (line ∷ next ∷ more) = last_part (next ∷ more)

abbrev pub part_line : Bool → List ℕ → List ℕ
part_line ended text = if ended then [] else last_part (parts_of text)
