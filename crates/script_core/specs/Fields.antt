-- The forms of the lines of a script: a word, and fields with exactly one space between them.
use Rattle.std.specs.Prelude.{ℕ, ◌+◌, ◌-◌, ◌*◌, Bool, true, false, not, ◌&&◌, ◌||◌, ◌==◌}
use Rattle.std.specs.Prelude.{nat_lt, nat_le, if◌then◌else◌, List, [], ◌∷◌, length, fold, map}
use Rattle.std.specs.Prelude.{codes}
use Rattle.std.specs.Prelude.{Option, Some, None, option_and_then}
use Rattle.std.specs.Char.{digit_value, is_ascii_digit, is_digit}
use Rattle.std.specs.Int.{is_in_range}
use Rattle.std.specs.List.{slice_split, join_with_byte, list_all, before_first, after_first}
use Rattle.std.specs.Result.{result_ok}
use Rattle.std.specs.Str.{bytes_eq, is_utf8}
use Rattle.hex.specs.Hex.{decode_sized}
use Rattle.fisb_time.specs.Moment.{first_moment, last_moment}
use Rattle.dlac_text.specs.Plain.{text_of_plain}
use Rattle.uplink_weave.specs.Woven.{frame_bytes}
use Rattle.uplink_frame.specs.declared.station.StationId.{StationId}
use Rattle.script_core.specs.Script.{Line, empty, station, text, radar, blank, turn, hear, rx, show}
use Rattle.script_core.specs.declared.radar.RadarHead.{RadarHead}

infixl 10 ◌>>=◌
abbrev pub ◌>>=◌ : {A B : Type 0} → Option A → (A → Option B) → Option B
o >>= f = option_and_then f o

-- the fields of a line
abbrev pub fields : List ℕ → List (List ℕ)
fields line = slice_split (λ b. b == 32) line

abbrev pub is_word : List ℕ → List ℕ → Bool
is_word field word = bytes_eq field word

-- a number is decimal digits without a leading zero, except 0 itself
abbrev pub has_leading_zero : List ℕ → Bool
has_leading_zero [] = false
has_leading_zero (b ∷ []) = false
has_leading_zero (b ∷ c ∷ more) = b == 48

abbrev pub is_number : List ℕ → Bool
is_number field =
    nat_lt 0 (length field) && list_all is_ascii_digit field && not (has_leading_zero field)

abbrev pub digits_value : List ℕ → ℕ
digits_value field = fold (λ value digit. 10 * value + (digit - 48)) 0 field

-- the number that a field spells, where it spells one from low to high
abbrev pub number_within : ℕ → ℕ → List ℕ → Option ℕ
number_within low high field =
    if is_number field && nat_le low (digits_value field) && nat_le (digits_value field) high
    then Some (digits_value field) else None

-- MOMENT and VERSION
abbrev pub moment_in : List ℕ → Option ℕ
moment_in field = number_within first_moment last_moment field

-- HEMI: whether the blocks lie south of the equator
abbrev pub south_in : List ℕ → Option Bool
south_in field = if is_word field (codes "n") then Some false
    else (if is_word field (codes "s") then Some true else None)

-- CELLS: the 128 intensities of a block, a digit from 0 to 7 each
abbrev pub is_cells : List ℕ → Bool
is_cells field = (length field == 128) && list_all (is_in_range 48 55) field

abbrev pub intensities_in : List ℕ → Option (List ℕ)
intensities_in field = if is_cells field then Some (map (λ digit. digit - 48) field) else None

-- the number of a block
abbrev pub block_number_in : List ℕ → Option ℕ
block_number_in field = number_within 0 1048575 field

abbrev pub block_numbers : List (List ℕ) → Option (List ℕ)
block_numbers [] = Some []
block_numbers (part ∷ others) = do
  number ← block_number_in part
  more ← block_numbers others
  Some (number ∷ more)

-- NUMBERS: one number of a block or more, joined by commas
abbrev pub numbers_in : List ℕ → Option (List ℕ)
numbers_in field = block_numbers (slice_split (λ b. b == 44) field)

-- HEX: the 552 bytes of a frame, as 1,104 hexadecimal digits of either case
abbrev pub air_in : List ℕ → Option (List ℕ)
air_in field = result_ok (decode_sized field frame_bytes)

-- the value of a hexadecimal digit, of either case
abbrev pub hex_digit : ℕ → Option ℕ
hex_digit digit = if is_digit digit 16 then Some (digit_value digit) else None

-- XX: the byte of two of them
abbrev pub byte_in : List ℕ → Option ℕ
byte_in [] = None
byte_in (high ∷ []) = None
byte_in (high ∷ low ∷ []) = do
  h ← hex_digit high
  l ← hex_digit low
  Some (16 * h + l)
byte_in (high ∷ low ∷ more ∷ others) = None

-- PLACE=XX: a place of a frame from `least` on, before the first equals sign, and the byte
-- after it
abbrev pub wrong_byte_in : ℕ → List ℕ → Option (ℕ × ℕ)
wrong_byte_in least field = do
  place ← number_within least 551 (before_first (λ b. b == 61) field)
  byte ← byte_in (after_first (λ b. b == 61) field)
  Some (place, byte)

-- any number of PLACE=XX: the first place is from `least` on, and each other one above the place
-- before it
abbrev pub wrong_from : ℕ → List (List ℕ) → Option (List (ℕ × ℕ))
wrong_from least [] = Some []
wrong_from least (field ∷ others) = do
  one ← wrong_byte_in least field
  more ← wrong_from (one.0 + 1) others
  Some (one ∷ more)

-- a station of a known position
abbrev pub station_at : ℕ → ℕ → ℕ → StationId
station_at latitude longitude site =
    record { lat = latitude; lon = longitude; position_valid = true; site = site }

-- `station LAT LON SITE`
abbrev pub station_line : List (List ℕ) → Option Line
station_line [] = None
station_line (latitude ∷ []) = None
station_line (latitude ∷ longitude ∷ []) = None
station_line (latitude ∷ longitude ∷ site ∷ []) = do
  a ← number_within 0 8388607 latitude
  o ← number_within 0 16777215 longitude
  s ← number_within 0 15 site
  Some (station (station_at a o s))
station_line (latitude ∷ longitude ∷ site ∷ more ∷ others) = None

-- `text MOMENT VERSION REPORT`, where REPORT is all of the line after the third space, UTF-8, and
-- shows a text
abbrev pub report_in : List ℕ → Option (List ℕ)
report_in bytes = if is_utf8 bytes then text_of_plain bytes else None

abbrev pub text_line : List (List ℕ) → Option Line
text_line [] = None
text_line (moment ∷ []) = None
text_line (moment ∷ version ∷ []) = None
text_line (moment ∷ version ∷ word ∷ rest) = do
  m ← moment_in moment
  v ← moment_in version
  report ← report_in (join_with_byte 32 (word ∷ rest))
  Some (text m v report)

-- MOMENT VERSION PRODUCT SCALE HEMI, which begin the lines of radar
abbrev pub head_in : (moment version product scale hemisphere : List ℕ) → Option RadarHead
head_in moment version product scale hemisphere = do
  m ← moment_in moment
  v ← moment_in version
  p ← number_within 0 2047 product
  s ← number_within 0 3 scale
  h ← south_in hemisphere
  Some (record { moment = m; version = v; product = p; scale = s; south = h })

-- the same, and the fields after them
abbrev pub radar_head : List (List ℕ) → Option (RadarHead × List (List ℕ))
radar_head [] = None
radar_head (moment ∷ []) = None
radar_head (moment ∷ version ∷ []) = None
radar_head (moment ∷ version ∷ product ∷ []) = None
radar_head (moment ∷ version ∷ product ∷ scale ∷ []) = None
radar_head (moment ∷ version ∷ product ∷ scale ∷ hemisphere ∷ rest) = do
  head ← head_in moment version product scale hemisphere
  Some (head, rest)

-- NUMBER CELLS
abbrev pub block_behind : RadarHead → List (List ℕ) → Option Line
block_behind head [] = None
block_behind head (number ∷ []) = None
block_behind head (number ∷ cells ∷ []) = do
  n ← block_number_in number
  c ← intensities_in cells
  Some (radar head.moment head.version
      (record { product = head.product; scale = head.scale; south = head.south; number = n }) c)
block_behind head (number ∷ cells ∷ more ∷ others) = None

-- `radar MOMENT VERSION PRODUCT SCALE HEMI NUMBER CELLS`
abbrev pub radar_line : List (List ℕ) → Option Line
radar_line rest = do
  front ← radar_head rest
  block_behind front.0 front.1

-- NUMBERS
abbrev pub blanks_behind : RadarHead → List (List ℕ) → Option Line
blanks_behind head [] = None
blanks_behind head (numbers ∷ []) = do
  n ← numbers_in numbers
  Some (blank head.moment head.version head.product head.scale head.south n)
blanks_behind head (numbers ∷ more ∷ others) = None

-- `blank MOMENT VERSION PRODUCT SCALE HEMI NUMBERS`
abbrev pub blank_line : List (List ℕ) → Option Line
blank_line rest = do
  front ← radar_head rest
  blanks_behind front.0 front.1

-- `turn MOMENT SLOT`
abbrev pub turn_line : List (List ℕ) → Option Line
turn_line [] = None
turn_line (moment ∷ []) = None
turn_line (moment ∷ slot ∷ []) = do
  m ← moment_in moment
  s ← number_within 0 31 slot
  Some (turn m s)
turn_line (moment ∷ slot ∷ more ∷ others) = None

-- `hear MOMENT FRAME`, and any number of ` PLACE=XX` with rising places
abbrev pub hear_line : List (List ℕ) → Option Line
hear_line [] = None
hear_line (moment ∷ []) = None
hear_line (moment ∷ frame ∷ places) = do
  m ← moment_in moment
  f ← number_within 0 4294967295 frame
  wrong ← wrong_from 0 places
  Some (hear m f wrong)

-- `rx MOMENT HEX`
abbrev pub rx_line : List (List ℕ) → Option Line
rx_line [] = None
rx_line (moment ∷ []) = None
rx_line (moment ∷ hex ∷ []) = do
  m ← moment_in moment
  air ← air_in hex
  Some (rx m air)
rx_line (moment ∷ hex ∷ more ∷ others) = None

-- `show MOMENT`
abbrev pub show_line : List (List ℕ) → Option Line
show_line [] = None
show_line (moment ∷ []) = do
  m ← moment_in moment
  Some (show m)
show_line (moment ∷ more ∷ others) = None

-- the line of a word other than `text`, `blank` and `hear`
abbrev pub other_line : List ℕ → List (List ℕ) → Option Line
other_line word rest = if is_word word (codes "station") then station_line rest
    else (if is_word word (codes "radar") then radar_line rest
    else (if is_word word (codes "turn") then turn_line rest
    else (if is_word word (codes "rx") then rx_line rest
    else (if is_word word (codes "show") then show_line rest else None))))

-- the line that its fields spell
abbrev pub line_of_fields : List (List ℕ) → Option Line
line_of_fields [] = None
line_of_fields (word ∷ rest) = if is_word word (codes "text") then text_line rest
    else (if is_word word (codes "blank") then blank_line rest
    else (if is_word word (codes "hear") then hear_line rest else other_line word rest))

-- the line that some bytes without a newline are; None where they are of no line's form
abbrev pub line_of : List ℕ → Option Line
line_of [] = Some empty
line_of (b ∷ bytes) = line_of_fields (fields (b ∷ bytes))

-- whether the line of some fields takes memory: a `text` line for its report, a `blank` line for
-- its numbers, and a `hear` line for its wrong bytes
abbrev pub takes_memory : List (List ℕ) → Bool
takes_memory [] = false
takes_memory (word ∷ rest) =
    is_word word (codes "text") || is_word word (codes "blank")
    || (is_word word (codes "hear") && nat_lt 2 (length rest))

-- the parts between a separator's places in what is left of some bytes; None where none is
abbrev pub parts_left : ℕ → Option (List ℕ) → List (List ℕ)
parts_left separator None = []
parts_left separator (Some bytes) = slice_split (λ b. b == separator) bytes

abbrev pub fields_left : Option (List ℕ) → List (List ℕ)
fields_left rest = parts_left 32 rest
