-- The application protocol data unit of FIS-B (RTCA DO-358): a header of bit fields, and a payload.
use Rattle.std.specs.Prelude.{ℕ, ◌+◌, ◌-◌, ◌*◌, ◌/◌, Bool, ◌&&◌, ◌||◌, not, ◌==◌, nat_lt}
use Rattle.std.specs.Prelude.{if◌then◌else◌, List, [], ◌∷◌, ◌++◌, length, take, drop, Option, Some}
use Rattle.std.specs.Prelude.{None, is_some, Result, Ok, Err}
use Rattle.std.specs.Int.{bytes_high_first}
use Rattle.fisb_time.specs.declared.form.TimeForm.{TimeForm}
use Rattle.fisb_time.specs.declared.form.TimeForm.TheVariants.{Minute, Second, DayMinute, DaySecond}
use Rattle.fisb_time.specs.declared.form.TimeFields.{TimeFields}
use Rattle.bit_fields.specs.Bits.{Field, as_number, field_at}
use Rattle.apdu_core.specs.declared.apdu.Seg.{Seg}
use Rattle.apdu_core.specs.declared.fault.ApduFault.{ApduFault}
use Rattle.apdu_core.specs.declared.fault.ApduFault.TheVariants.{Short, Flagged, BadSegment}

-- how many file numbers there are
abbrev pub file_numbers : ℕ
file_numbers = 1024

-- an APDU; its segment is numbered from 1 to the count of its file
pub record Apdu : Type 0 where
  pub product : ℕ
  pub form : TimeForm
  pub time : TimeFields
  pub segmentation : Option Seg
  pub payload : List ℕ

-- the number of a time form, and the form of a number
abbrev pub form_number : TimeForm → ℕ
form_number Minute = 0
form_number Second = 1
form_number DayMinute = 2
form_number DaySecond = 3

abbrev pub form_of : ℕ → TimeForm
form_of n = if n == 0 then Minute
    else (if n == 1 then Second else (if n == 2 then DayMinute else DaySecond))

abbrev pub has_date : TimeForm → Bool
has_date form = nat_lt 1 (form_number form)

abbrev pub has_seconds : TimeForm → Bool
has_seconds form = (form_number form == 1) || (form_number form == 3)

-- the fields of the time: month and day where the form has a date, hours, minutes, and seconds
-- where it has them
abbrev pub time_fields : TimeForm → TimeFields → List Field
time_fields form t =
    (if has_date form then record { width = 4; number = t.month }
    ∷ record { width = 5; number = t.day } ∷ [] else [])
    ++ (record { width = 5; number = t.hours } ∷ record { width = 6; number = t.minutes } ∷ [])
    ++ (if has_seconds form then record { width = 6; number = t.seconds } ∷ [] else [])

abbrev pub segment_fields : Option Seg → List Field
segment_fields None = []
segment_fields (Some s) = record { width = 10; number = s.file }
    ∷ record { width = 9; number = s.count } ∷ record { width = 9; number = s.number } ∷ []

-- how many bits the header has before its fill: three flags, the product, the flag of segments, the
-- form, the time, the segment
abbrev pub time_width : TimeForm → ℕ
time_width form = 11 + (if has_date form then 9 else 0) + (if has_seconds form then 6 else 0)

abbrev pub header_width : TimeForm → Bool → ℕ
header_width form is_segmented = 17 + time_width form + (if is_segmented then 28 else 0)

-- how many bytes, with fill to a whole byte
abbrev pub header_length : TimeForm → Bool → ℕ
header_length form is_segmented = (header_width form is_segmented + 7) / 8

-- the fields of the header before its fill, with the flags 0
abbrev pub header_fields : Apdu → List Field
header_fields a = (record { width = 3; number = 0 } ∷ record { width = 11; number = a.product }
    ∷ record { width = 1; number = if is_some a.segmentation then 1 else 0 }
    ∷ record { width = 2; number = form_number a.form } ∷ [])
    ++ time_fields a.form a.time ++ segment_fields a.segmentation

-- the bits from the last field to a whole byte
abbrev pub fill_width : Apdu → ℕ
fill_width a =
    8 * header_length a.form (is_some a.segmentation) - header_width a.form (is_some a.segmentation)

-- the header with these fill bits
abbrev pub header_with : ℕ → Apdu → List ℕ
header_with fill a = bytes_high_first (header_length a.form (is_some a.segmentation))
    (as_number 0 (header_fields a ++ record { width = fill_width a; number = fill } ∷ []))

-- the header with its fill 0
abbrev pub apdu_header : Apdu → List ℕ
apdu_header a = header_with 0 a

abbrev pub apdu_bytes : Apdu → List ℕ
apdu_bytes a = apdu_header a ++ a.payload

-- what stands in the header of a body that has all of it
abbrev pub form_in : List ℕ → TimeForm
form_in body = form_of (field_at (take 4 body) 15 2)

abbrev pub is_segmented_in : List ℕ → Bool
is_segmented_in body = field_at (take 4 body) 14 1 == 1

abbrev pub time_in : TimeForm → List ℕ → TimeFields
time_in form header = let hours = (if has_date form then 26 else 17) in record {
  month = if has_date form then field_at header 17 4 else 0;
  day = if has_date form then field_at header 21 5 else 0;
  hours = field_at header hours 5;
  minutes = field_at header (hours + 5) 6;
  seconds = if has_seconds form then field_at header (hours + 11) 6 else 0;
}

abbrev pub segmentation_in : TimeForm → List ℕ → Seg
segmentation_in form header = let place = 17 + time_width form in
    record {
      file = field_at header place 10;
      count = field_at header (place + 10) 9;
      number = field_at header (place + 19) 9;
    }

abbrev pub is_bad : Seg → Bool
is_bad s = (s.count == 0) || (s.number == 0) || nat_lt s.count s.number

-- the APDU of a header of the length that its form asks for, and of the bytes after it
abbrev pub apdu_of_header : TimeForm → Bool → List ℕ → List ℕ → Result Apdu ApduFault
apdu_of_header form is_segmented header payload =
    if is_segmented && is_bad (segmentation_in form header) then Err BadSegment
    else Ok (record {
      product = field_at header 3 11;
      form = form;
      time = time_in form header;
      segmentation = if is_segmented then Some (segmentation_in form header) else None;
      payload = payload;
    })

-- the APDU of a body, or the first fault; fill bits are not looked at
unfoldable pub apdu_of : List ℕ → Result Apdu ApduFault
apdu_of body = if nat_lt (length body) 4 then Err Short
    else (if not (field_at (take 4 body) 0 3 == 0) then Err Flagged
    else (let bytes = header_length (form_in body) (is_segmented_in body) in
    if nat_lt (length body) bytes then Err Short
    else apdu_of_header (form_in body) (is_segmented_in body) (take bytes body) (drop bytes body)))

-- the product in a body, 0 where it is too short for one
abbrev pub product_of : List ℕ → ℕ
product_of body = if nat_lt (length body) 4 then 0 else field_at (take 4 body) 3 11
