-- The DLAC alphabet of RTCA DO-358: characters, by their Unicode numbers, and their six-bit codes.
use Rattle.std.specs.Prelude.{ℕ, ◌+◌, ◌-◌, Bool, ◌||◌, ◌==◌, nat_lt, if◌then◌else◌, IsTrue, List}
use Rattle.std.specs.Int.{is_in_range}
use Rattle.std.specs.List.{list_all}

-- A to Z, the ASCII characters 32 to 63, U+001A, newline and the vertical bar
abbrev pub is_in_alphabet : ℕ → Bool
is_in_alphabet character =
    is_in_range 65 90 character || is_in_range 32 63 character || character == 26 || character == 10
    || character == 124

-- every character of the text has a code
abbrev pub IsDlac : List ℕ → Type 0
IsDlac text = IsTrue (list_all is_in_alphabet text)

-- the code of a character of the alphabet
abbrev pub code_of : ℕ → ℕ
code_of character =
    if is_in_range 65 90 character
    then character - 64
    else if character == 26 then 27 else if character == 10 then 30 else if character == 124 then 31
    else character

-- the character of a code; 0, 28 and 29 are no characters
abbrev pub character_of : ℕ → ℕ
character_of code =
    if nat_lt code 27
    then code + 64
    else if code == 27 then 26 else if code == 30 then 10 else if code == 31 then 124 else code

-- the character of a code, or 0 of a code that has none
abbrev pub character_or_zero : ℕ → ℕ
character_or_zero code = if code == 0 || code == 28 || code == 29 then 0 else character_of code
