-- The fields of a header, and what is read at their places.
use Rattle.std.proofs.Common.{◌≡◌, ℕ, ◌+◌, ◌*◌, ◌^◌, ◌<◌, if◌then◌else◌, Option, None, Some, is_some, List, [], ◌∷◌, ◌++◌, refl, arith, lit<}
use Rattle.list_members.specs.Each.{AllByRecursion-append}
use Rattle.fisb_time.specs.declared.form.TimeForm.{TimeForm}
use Rattle.fisb_time.specs.declared.form.TimeForm.TheVariants.{Minute, Second, DayMinute, DaySecond}
use Rattle.fisb_time.specs.declared.form.TimeFields.{TimeFields}
use Rattle.bit_fields.specs.Bits.{Field, field_at}
use Rattle.apdu_core.specs.declared.apdu.Seg.{Seg}
use Rattle.apdu_core.specs.Apdu.{Apdu, form_number, time_fields, segment_fields, time_width, header_length, header_fields, fill_width, time_in, segmentation_in}
use Rattle.apdu_core.specs.Spelling.{FitsTime, FitsSegmentation, FitsApdu}
use Rattle.apdu_core.proofs.FieldLemmas.{total_width, IsWithin, AreWithin, AreAt}

-- the fields of a header with its fill
abbrev pub fields_with : ℕ → Apdu → List Field
fields_with fill a = header_fields a ++ record { width = fill_width a; number = fill } ∷ []

spelled_whole : (product fill : ℕ) (form : TimeForm) (time : TimeFields) (s : Option Seg) (payload : List ℕ)
    → total_width (fields_with fill (record { product = product; form = form; time = time; segmentation = s; payload = payload })) ≡ 8 * header_length form (is_some s)
spelled_whole product fill Minute time None payload = refl
spelled_whole product fill Minute time (Some s) payload = refl
spelled_whole product fill Second time None payload = refl
spelled_whole product fill Second time (Some s) payload = refl
spelled_whole product fill DayMinute time None payload = refl
spelled_whole product fill DayMinute time (Some s) payload = refl
spelled_whole product fill DaySecond time None payload = refl
spelled_whole product fill DaySecond time (Some s) payload = refl

-- a header with its fill has whole bytes
pub whole : (fill : ℕ) (a : Apdu) → total_width (fields_with fill a) ≡ 8 * header_length a.form (is_some a.segmentation)
whole fill a = spelled_whole a.product fill a.form a.time a.segmentation a.payload

same_time : (t : TimeFields) (month day hours minutes seconds : ℕ) → t.month ≡ month → t.day ≡ day → t.hours ≡ hours → t.minutes ≡ minutes → t.seconds ≡ seconds
    → t ≡ record { month = month; day = day; hours = hours; minutes = minutes; seconds = seconds }
same_time t month day hours minutes seconds p q r u v =
    let made : TimeFields = record { month = t.month; day = t.day; hours = t.hours; minutes = t.minutes; seconds = t.seconds } in
    let same : made ≡ record { month = month; day = day; hours = hours; minutes = minutes; seconds = seconds } = cc in
    same

same_segment : (s : Seg) (file count number : ℕ) → s.file ≡ file → s.count ≡ count → s.number ≡ number → s ≡ record { file = file; count = count; number = number }
same_segment s file count number p q r =
    let made : Seg = record { file = s.file; count = s.count; number = s.number } in
    let same : made ≡ record { file = file; count = count; number = number } = cc in
    same

-- the time, and what stands behind it
pub time-from_at : (form : TimeForm) (t : TimeFields) (bytes : List ℕ) (rest : List Field) → FitsTime form t → AreAt bytes 17 (time_fields form t ++ rest)
    → (t ≡ time_in form bytes) × AreAt bytes (17 + time_width form) rest
time-from_at Minute t bytes rest fits h =
    (same_time t 0 0 (field_at bytes 17 5) (field_at bytes 22 6) 0 (fits.no_month refl) (fits.no_day refl) h.0 h.1.0 (fits.no_seconds refl), h.1.1)
time-from_at Second t bytes rest fits h =
    (same_time t 0 0 (field_at bytes 17 5) (field_at bytes 22 6) (field_at bytes 28 6) (fits.no_month refl) (fits.no_day refl) h.0 h.1.0 h.1.1.0, h.1.1.1)
time-from_at DayMinute t bytes rest fits h =
    (same_time t (field_at bytes 17 4) (field_at bytes 21 5) (field_at bytes 26 5) (field_at bytes 31 6) 0 h.0 h.1.0 h.1.1.0 h.1.1.1.0 (fits.no_seconds refl), h.1.1.1.1)
time-from_at DaySecond t bytes rest fits h =
    (same_time t (field_at bytes 17 4) (field_at bytes 21 5) (field_at bytes 26 5) (field_at bytes 31 6) (field_at bytes 37 6) h.0 h.1.0 h.1.1.0 h.1.1.1.0 h.1.1.1.1.0, h.1.1.1.1.1)

pub at-from_time : (form : TimeForm) (bytes : List ℕ) (rest : List Field) → AreAt bytes (17 + time_width form) rest → AreAt bytes 17 (time_fields form (time_in form bytes) ++ rest)
at-from_time Minute bytes rest h = (refl, (refl, h))
at-from_time Second bytes rest h = (refl, (refl, (refl, h)))
at-from_time DayMinute bytes rest h = (refl, (refl, (refl, (refl, h))))
at-from_time DaySecond bytes rest h = (refl, (refl, (refl, (refl, (refl, h)))))

-- the segment, and what stands behind it
pub segment-from_at : (form : TimeForm) (s : Seg) (bytes : List ℕ) (rest : List Field) → AreAt bytes (17 + time_width form) (segment_fields (Some s) ++ rest)
    → s ≡ segmentation_in form bytes
segment-from_at Minute s bytes rest h = same_segment s _ _ _ h.0 h.1.0 h.1.1.0
segment-from_at Second s bytes rest h = same_segment s _ _ _ h.0 h.1.0 h.1.1.0
segment-from_at DayMinute s bytes rest h = same_segment s _ _ _ h.0 h.1.0 h.1.1.0
segment-from_at DaySecond s bytes rest h = same_segment s _ _ _ h.0 h.1.0 h.1.1.0

pub at-from_segment : (form : TimeForm) (bytes : List ℕ) (rest : List Field) → AreAt bytes (45 + time_width form) rest
    → AreAt bytes (17 + time_width form) (segment_fields (Some (segmentation_in form bytes)) ++ rest)
at-from_segment Minute bytes rest h = (refl, (refl, (refl, h)))
at-from_segment Second bytes rest h = (refl, (refl, (refl, h)))
at-from_segment DayMinute bytes rest h = (refl, (refl, (refl, h)))
at-from_segment DaySecond bytes rest h = (refl, (refl, (refl, h)))

-- which numbers are within their widths
pub within-from_time : (form : TimeForm) (t : TimeFields) → FitsTime form t → AreWithin (time_fields form t)
within-from_time Minute t h = (h.hours, (h.minutes, tt))
within-from_time Second t h = (h.hours, (h.minutes, (h.seconds, tt)))
within-from_time DayMinute t h = (h.month, (h.day, (h.hours, (h.minutes, tt))))
within-from_time DaySecond t h = (h.month, (h.day, (h.hours, (h.minutes, (h.seconds, tt)))))

-- what is read as a time fits
pub time_in-fits : (form : TimeForm) (bytes : List ℕ) → FitsTime form (time_in form bytes)
time_in-fits Minute bytes = record {
  month = omega arith;
  day = omega arith;
  hours = omega arith;
  minutes = omega arith;
  seconds = omega arith;
  no_month = λ e. refl;
  no_day = λ e. refl;
  no_seconds = λ e. refl;
}
time_in-fits Second bytes = record {
  month = omega arith;
  day = omega arith;
  hours = omega arith;
  minutes = omega arith;
  seconds = omega arith;
  no_month = λ e. refl;
  no_day = λ e. refl;
  no_seconds = λ e. cc;
}
time_in-fits DayMinute bytes = record {
  month = omega arith;
  day = omega arith;
  hours = omega arith;
  minutes = omega arith;
  seconds = omega arith;
  no_month = λ e. cc;
  no_day = λ e. cc;
  no_seconds = λ e. refl;
}
time_in-fits DaySecond bytes = record {
  month = omega arith;
  day = omega arith;
  hours = omega arith;
  minutes = omega arith;
  seconds = omega arith;
  no_month = λ e. cc;
  no_day = λ e. cc;
  no_seconds = λ e. cc;
}

pub within-from_segment : (s : Option Seg) → FitsSegmentation s → AreWithin (segment_fields s)
within-from_segment None h = tt
within-from_segment (Some s) h =
    let file = h.file in
    let count = h.count in
    let last = h.last in
    (file, (count, (omega arith, tt)))

bit_within : (s : Option Seg) → (if is_some s then 1 else 0) < 2 ^ 1
bit_within None = omega arith
bit_within (Some s) = omega arith

form_within : (form : TimeForm) → form_number form < 2 ^ 2
form_within Minute = omega arith
form_within Second = omega arith
form_within DayMinute = omega arith
form_within DaySecond = omega arith

pub within-from_fits : (fill : ℕ) (a : Apdu) → FitsApdu a → fill < 2 ^ fill_width a → AreWithin (fields_with fill a)
within-from_fits fill a fits h =
    let back : AreWithin (record { width = fill_width a; number = fill } ∷ []) = (h, tt) in
    let rest = AllByRecursion-append IsWithin (time_fields a.form a.time) (segment_fields a.segmentation) (within-from_time a.form a.time fits.time) (within-from_segment a.segmentation fits.segmentation) in
    let front : AreWithin (header_fields a) = (lit< tt, (fits.product, (bit_within a.segmentation, (form_within a.form, rest)))) in
    AllByRecursion-append IsWithin (header_fields a) (record { width = fill_width a; number = fill } ∷ []) front back
