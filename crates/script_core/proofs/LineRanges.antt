-- What a line says is within its ranges.
use Rattle.std.proofs.Common.{◌≡◌, ℕ, ◌+◌, ◌*◌, ◌<◌, ◌≤◌, ◌^◌, ◌==◌, Bool, true, false, nat_lt, cond, if◌then◌else◌, All, List, [], ◌∷◌, Option, Some, None, Result, Ok, Err, option_and_then, sym, ◌∙◌, length, codes, refl, ap, subst, arith, inl, inr, lit<}
use Rattle.std.proofs.lemmas.Bool.{cases_Bool, cond_both}
use Rattle.std.proofs.lemmas.Bool.Decides.{nat_tests}
use Rattle.std.proofs.lemmas.List.Splits.{join_with_byte-slice_split}
use Rattle.std.proofs.lemmas.Str.{IsUtf8-from_is_utf8}
use Rattle.std.proofs.lemmas.Grind.{get_or_default_zero}
use Rattle.std.proofs.lemmas.List.Elements.{All-append, All-push}
use Rattle.std.specs.Char.{digit_value, is_digit}
use Rattle.std.specs.List.{before_first, after_first, join_with_byte}
use Rattle.std.specs.Option.{IfSome}
use Rattle.std.specs.Result.{result_ok}
use Rattle.std.specs.Str.{is_utf8, IsUtf8}
use Rattle.hex.specs.Hex.{decode_sized}
use Rattle.hex.specs.declared.error.FromHexError.{FromHexError}
use Rattle.hex.proofs.HexLemmas.{decode_sized-ok, decode_sized-twice, decode_of-ok}
use Rattle.fisb_time.specs.Moment.{IsMoment}
use Rattle.dlac_text.specs.Plain.{text_of_plain}
use Rattle.script_core.specs.Fields.{◌>>=◌, fields, is_word, number_within, moment_in, report_in, hex_digit, byte_in, wrong_byte_in, wrong_from, air_in, rx_line, station_at, station_line, text_line, turn_line, hear_line, show_line, other_line, line_of_fields, line_of}
use Rattle.script_core.specs.Laws.{LinesHaveRanges}
use Rattle.script_core.specs.LineView.{IsAir}
use Rattle.script_core.specs.Script.{Line, station, turn, hear, rx, show}
use Rattle.script_core.specs.Fields.{radar_line, blank_line}
use Rattle.script_core.proofs.FieldRanges.{IsRanged, number_bounds, number_below, moment_range, joined_behind}
use Rattle.script_core.proofs.RadarRanges.{radar_ranged, blank_ranged}
use Rattle.script_core.proofs.ReportTexts.{report_size, text_by}
use Rattle.script_core.proofs.WrongBytes.{IsWrongByte}

-- what a plain text shows is UTF-8, as the plain text is
abbrev ShowsUtf8 : Type 0
ShowsUtf8 = (plain shown : List ℕ) → IsUtf8 plain → text_of_plain plain ≡ Some shown → IsUtf8 shown

-- each line, by what its fields spell
abbrev station_by : Option ℕ → Option ℕ → Option ℕ → Option Line
station_by latitude longitude site = do
  a ← latitude
  o ← longitude
  s ← site
  Some (station (station_at a o s))

station_by_ranged : (size : ℕ) (latitude longitude site : Option ℕ) → IfSome latitude (λ n. n < 2 ^ 23) → IfSome longitude (λ n. n < 2 ^ 24) → IfSome site (λ n. n < 16)
    → IsRanged size (station_by latitude longitude site)
station_by_ranged size None longitude site a o s = tt
station_by_ranged size (Some latitude) None site a o s = tt
station_by_ranged size (Some latitude) (Some longitude) None a o s = tt
station_by_ranged size (Some latitude) (Some longitude) (Some site) a o s = record { lat = a; lon = o; site = s }

station_ranged : (size : ℕ) (rest : List (List ℕ)) → IsRanged size (station_line rest)
station_ranged size [] = tt
station_ranged size (latitude ∷ []) = tt
station_ranged size (latitude ∷ longitude ∷ []) = tt
station_ranged size (latitude ∷ longitude ∷ site ∷ []) =
    station_by_ranged size (number_within 0 8388607 latitude) (number_within 0 16777215 longitude) (number_within 0 15 site)
    (number_below 8388607 (2 ^ 23) latitude (lit< tt)) (number_below 16777215 (2 ^ 24) longitude (lit< tt)) (number_below 15 16 site (lit< tt))
station_ranged size (latitude ∷ longitude ∷ site ∷ more ∷ others) = tt

abbrev turn_by : Option ℕ → Option ℕ → Option Line
turn_by moment slot = do
  m ← moment
  s ← slot
  Some (turn m s)

turn_by_ranged : (size : ℕ) (moment slot : Option ℕ) → IfSome moment IsMoment → IfSome slot (λ n. n < 32) → IsRanged size (turn_by moment slot)
turn_by_ranged size None slot m s = tt
turn_by_ranged size (Some moment) None m s = tt
turn_by_ranged size (Some moment) (Some slot) m s = (m, s)

turn_ranged : (size : ℕ) (rest : List (List ℕ)) → IsRanged size (turn_line rest)
turn_ranged size [] = tt
turn_ranged size (moment ∷ []) = tt
turn_ranged size (moment ∷ slot ∷ []) =
    turn_by_ranged size (moment_in moment) (number_within 0 31 slot) (moment_range moment) (number_below 31 32 slot (lit< tt))
turn_ranged size (moment ∷ slot ∷ more ∷ others) = tt

digit_where : (small : Bool) (value : ℕ) → nat_lt value 16 ≡ small → IfSome (if small then Some value else None) (λ digit. digit < 16)
digit_where true value is = grind (arith, nat_tests)
digit_where false value is = tt

digit_range : (digit : ℕ) → IfSome (hex_digit digit) (λ value. value < 16)
digit_range digit = digit_where (is_digit digit 16) (digit_value digit) refl

abbrev byte_by : Option ℕ → Option ℕ → Option ℕ
byte_by high low = do
  h ← high
  l ← low
  Some (16 * h + l)

byte_by_range : (high low : Option ℕ) → IfSome high (λ value. value < 16) → IfSome low (λ value. value < 16) → IfSome (byte_by high low) (λ byte. byte < 256)
byte_by_range None low h l = tt
byte_by_range (Some high) None h l = tt
byte_by_range (Some high) (Some low) h l = omega (arith, h, l)

byte_range : (field : List ℕ) → IfSome (byte_in field) (λ byte. byte < 256)
byte_range [] = tt
byte_range (high ∷ []) = tt
byte_range (high ∷ low ∷ []) = byte_by_range (hex_digit high) (hex_digit low) (digit_range high) (digit_range low)
byte_range (high ∷ low ∷ more ∷ others) = tt

abbrev wrong_by : Option ℕ → Option ℕ → Option (ℕ × ℕ)
wrong_by place byte = do
  p ← place
  b ← byte
  Some (p, b)

wrong_by_range : (least : ℕ) (place byte : Option ℕ) → IfSome place (λ p. (least ≤ p) × (p ≤ 551)) → IfSome byte (λ b. b < 256) → IfSome (wrong_by place byte) IsWrongByte
wrong_by_range least None byte p b = tt
wrong_by_range least (Some place) None p b = tt
wrong_by_range least (Some place) (Some byte) p b = let most : place ≤ 551 = p.1 in (omega (arith, most), b)

wrong_byte_range : (least : ℕ) (field : List ℕ) → IfSome (wrong_byte_in least field) IsWrongByte
wrong_byte_range least field =
    let place = before_first (λ b. b == 61) field in
    let byte = after_first (λ b. b == 61) field in
    wrong_by_range least (number_within least 551 place) (byte_in byte) (number_bounds least 551 place) (byte_range byte)

more_wrong : (one : ℕ × ℕ) (rest : Option (List (ℕ × ℕ))) → IsWrongByte one → IfSome rest (All IsWrongByte) → IfSome (option_and_then (λ more. Some (one ∷ more)) rest) (All IsWrongByte)
more_wrong one None o r = tt
more_wrong one (Some more) o r = All-append IsWrongByte (one ∷ []) more (All-push IsWrongByte [] one (λ k d within. absurd (omega (arith, within))) o) r

wrong_where : (one : Option (ℕ × ℕ)) (rest : ℕ → Option (List (ℕ × ℕ))) → IfSome one IsWrongByte → ((least : ℕ) → IfSome (rest least) (All IsWrongByte))
    → IfSome (option_and_then (λ (o : ℕ × ℕ). option_and_then (λ more. Some (o ∷ more)) (rest (o.0 + 1))) one) (All IsWrongByte)
wrong_where None rest o r = tt
wrong_where (Some one) rest o r = more_wrong one (rest (one.0 + 1)) o (r (one.0 + 1))

wrong_range : (least : ℕ) (places : List (List ℕ)) → IfSome (wrong_from least places) (All IsWrongByte)
wrong_range least [] = λ k d within. absurd (omega (arith, within))
wrong_range least (field ∷ others) = wrong_where (wrong_byte_in least field) (λ next. wrong_from next others) (wrong_byte_range least field) (λ next. wrong_range next others)

abbrev hear_by : Option ℕ → Option ℕ → Option (List (ℕ × ℕ)) → Option Line
hear_by moment frame wrong = do
  m ← moment
  f ← frame
  w ← wrong
  Some (hear m f w)

hear_by_ranged : (size : ℕ) (moment frame : Option ℕ) (wrong : Option (List (ℕ × ℕ))) → IfSome moment IsMoment → IfSome frame (λ n. n < 2 ^ 32) → IfSome wrong (All IsWrongByte)
    → IsRanged size (hear_by moment frame wrong)
hear_by_ranged size None frame wrong m f w = tt
hear_by_ranged size (Some moment) None wrong m f w = tt
hear_by_ranged size (Some moment) (Some frame) None m f w = tt
hear_by_ranged size (Some moment) (Some frame) (Some wrong) m f w = (m, f, w)

hear_ranged : (size : ℕ) (rest : List (List ℕ)) → IsRanged size (hear_line rest)
hear_ranged size [] = tt
hear_ranged size (moment ∷ []) = tt
hear_ranged size (moment ∷ frame ∷ places) =
    hear_by_ranged size (moment_in moment) (number_within 0 4294967295 frame) (wrong_from 0 places) (moment_range moment)
    (number_below 4294967295 (2 ^ 32) frame (lit< tt)) (wrong_range 0 places)

air_bytes : (field air : List ℕ) → decode_sized field 552 ≡ Ok air → IsAir air
air_bytes field air e =
    let sized = decode_sized-ok field 552 air e in
    let all = decode_of-ok field air (sym (decode_sized-twice field 552 sized) ∙ e) in
    let count = all.2 in
    record { count = omega (arith, count, sized); bytes = λ k d within. subst (λ b. b < 256) (sym (get_or_default_zero air k d within)) (all.3 k) }

air_where : (field : List ℕ) (air : Result (List ℕ) FromHexError) → decode_sized field 552 ≡ air → IfSome (result_ok air) IsAir
air_where field (Ok air) e = air_bytes field air e
air_where field (Err fault) e = tt

abbrev rx_by : Option ℕ → Option (List ℕ) → Option Line
rx_by moment air = do
  m ← moment
  a ← air
  Some (rx m a)

rx_by_ranged : (size : ℕ) (moment : Option ℕ) (air : Option (List ℕ)) → IfSome moment IsMoment → IfSome air IsAir → IsRanged size (rx_by moment air)
rx_by_ranged size None air m a = tt
rx_by_ranged size (Some moment) None m a = tt
rx_by_ranged size (Some moment) (Some air) m a = (m, a)

rx_ranged : (size : ℕ) (rest : List (List ℕ)) → IsRanged size (rx_line rest)
rx_ranged size [] = tt
rx_ranged size (moment ∷ []) = tt
rx_ranged size (moment ∷ hex ∷ []) = rx_by_ranged size (moment_in moment) (air_in hex) (moment_range moment) (air_where hex (decode_sized hex 552) refl)
rx_ranged size (moment ∷ hex ∷ more ∷ others) = tt

abbrev show_by : Option ℕ → Option Line
show_by moment = do
  m ← moment
  Some (show m)

show_by_ranged : (size : ℕ) (moment : Option ℕ) → IfSome moment IsMoment → IsRanged size (show_by moment)
show_by_ranged size None m = tt
show_by_ranged size (Some moment) m = m

show_ranged : (size : ℕ) (rest : List (List ℕ)) → IsRanged size (show_line rest)
show_ranged size [] = tt
show_ranged size (moment ∷ []) = show_by_ranged size (moment_in moment) (moment_range moment)
show_ranged size (moment ∷ more ∷ others) = tt

-- a report is UTF-8, and no longer than the line
abbrev IsReport : ℕ → List ℕ → Type 0
IsReport size report = IsUtf8 report × (length report ≤ size)

text_by_ranged : (size : ℕ) (moment version : Option ℕ) (report : Option (List ℕ)) → IfSome moment IsMoment → IfSome version IsMoment → IfSome report (IsReport size)
    → IsRanged size (text_by moment version report)
text_by_ranged size None version report m v r = tt
text_by_ranged size (Some moment) None report m v r = tt
text_by_ranged size (Some moment) (Some version) None m v r = tt
text_by_ranged size (Some moment) (Some version) (Some report) m v r = (m, v, r.0, r.1)

where_utf8 : ShowsUtf8 → (bytes shown : List ℕ) → report_in bytes ≡ Some shown → IsUtf8 shown
where_utf8 law bytes shown e =
    elim (cases_Bool (is_utf8 bytes)) [
      | inl holds ↦ (let same : text_of_plain bytes ≡ Some shown = rw holds at e in law bytes shown (IsUtf8-from_is_utf8 bytes holds) same)
      | inr fails ↦ absurd (let none = rw fails at e in cc)
    ]

where_some : (size : ℕ) (report : Option (List ℕ)) → ((shown : List ℕ) → report ≡ Some shown → IsReport size shown) → IfSome report (IsReport size)
where_some size None h = tt
where_some size (Some shown) h = h shown refl

report_ranged : ShowsUtf8 → (size : ℕ) (bytes : List ℕ) → length bytes ≤ size → IfSome (report_in bytes) (IsReport size)
report_ranged law size bytes fits =
    where_some size (report_in bytes)
    (λ shown e. let short = report_size bytes shown e in (where_utf8 law bytes shown e, omega (arith, short)))

text_ranged : ShowsUtf8 → (size : ℕ) (rest : List (List ℕ)) → length (join_with_byte 32 rest) ≤ size → IsRanged size (text_line rest)
text_ranged law size [] fits = tt
text_ranged law size (moment ∷ []) fits = tt
text_ranged law size (moment ∷ version ∷ []) fits = tt
text_ranged law size (moment ∷ version ∷ word ∷ rest) fits =
    let one = joined_behind moment (version ∷ word ∷ rest) in
    let two = joined_behind version (word ∷ rest) in
    text_by_ranged size (moment_in moment) (moment_in version) (report_in (join_with_byte 32 (word ∷ rest))) (moment_range moment) (moment_range version)
    (report_ranged law size (join_with_byte 32 (word ∷ rest)) (omega (arith, one, two, fits)))

either_ranged : (size : ℕ) (b : Bool) (one other : Option Line) → IsRanged size one → IsRanged size other → IsRanged size (cond b one other)
either_ranged size b one other h k = cond_both b one other (IsRanged size) (λ e. h) (λ e. k)

other_ranged : (size : ℕ) (word : List ℕ) (rest : List (List ℕ)) → IsRanged size (other_line word rest)
other_ranged size word rest =
    either_ranged size (is_word word (codes "station")) (station_line rest) _ (station_ranged size rest)
    (either_ranged size (is_word word (codes "radar")) (radar_line rest) _ (radar_ranged size rest)
    (either_ranged size (is_word word (codes "turn")) (turn_line rest) _ (turn_ranged size rest)
    (either_ranged size (is_word word (codes "rx")) (rx_line rest) _ (rx_ranged size rest)
    (either_ranged size (is_word word (codes "show")) (show_line rest) None (show_ranged size rest) tt))))

fields_ranged : ShowsUtf8 → (size : ℕ) (parts : List (List ℕ)) → length (join_with_byte 32 parts) ≤ size → IsRanged size (line_of_fields parts)
fields_ranged law size [] fits = tt
fields_ranged law size (word ∷ rest) fits =
    let behind = joined_behind word rest in
    either_ranged size (is_word word (codes "text")) (text_line rest) _ (text_ranged law size rest (omega (arith, behind, fits)))
    (either_ranged size (is_word word (codes "blank")) (blank_line rest) _ (blank_ranged size rest (omega (arith, behind, fits)))
    (either_ranged size (is_word word (codes "hear")) (hear_line rest) (other_line word rest) (hear_ranged size rest) (other_ranged size word rest)))

line_ranged : ShowsUtf8 → (bytes : List ℕ) → IsRanged (length bytes) (line_of bytes)
line_ranged law [] = tt
line_ranged law (b ∷ bytes) =
    let whole = ap length (join_with_byte-slice_split 32 (b ∷ bytes)) in
    fields_ranged law (length (b ∷ bytes)) (fields (b ∷ bytes)) (omega (arith, whole))

pub ranges_of_lines : ShowsUtf8 → LinesHaveRanges
ranges_of_lines law bytes line e = subst (IsRanged (length bytes)) e (line_ranged law bytes)
