-- Which body spells which APDU, as the format states it: the fields of the header side by side with
-- the flags 0, any fill bits, and the payload.
use Rattle.std.specs.Prelude.{◌≡◌, ℕ, ◌^◌, ◌<◌, ◌≤◌, ◌↔◌, false, List, ◌++◌, Option, None, Some}
use Rattle.std.specs.Prelude.{Result, Ok}
use Rattle.fisb_time.specs.declared.form.TimeForm.{TimeForm}
use Rattle.fisb_time.specs.declared.form.TimeFields.{TimeFields}
pub use Rattle.bit_fields.specs.Bits.{AreBytes}
use Rattle.apdu_core.specs.declared.apdu.Seg.{Seg}
use Rattle.apdu_core.specs.declared.fault.ApduFault.{ApduFault}
use Rattle.apdu_core.specs.Apdu.{Apdu, file_numbers, has_date, has_seconds, fill_width, header_with}

-- each field of the time is within its width, and those that the form lacks are 0
pub record FitsTime (form : TimeForm) (time : TimeFields) : Type 0 where
  pub month : time.month < 16
  pub day : time.day < 32
  pub hours : time.hours < 32
  pub minutes : time.minutes < 64
  pub seconds : time.seconds < 64
  pub no_month : has_date form ≡ false → time.month ≡ 0
  pub no_day : has_date form ≡ false → time.day ≡ 0
  pub no_seconds : has_seconds form ≡ false → time.seconds ≡ 0

-- each field of a segment is within its width, there is a segment at least, and its number is from
-- 1 to the count
pub record FitsSegment (s : Seg) : Type 0 where
  pub file : s.file < file_numbers
  pub count : s.count < 512
  pub first : 1 ≤ s.number
  pub last : s.number ≤ s.count

abbrev pub FitsSegmentation : Option Seg → Type 0
FitsSegmentation None = Unit {0}
FitsSegmentation (Some s) = FitsSegment s

-- the values can stand in a header
pub record FitsApdu (a : Apdu) : Type 0 where
  pub product : a.product < 2048
  pub time : FitsTime a.form a.time
  pub segmentation : FitsSegmentation a.segmentation

-- the body spells the APDU with these fill bits
pub record SpellsWith (fill : ℕ) (body : List ℕ) (a : Apdu) : Type 0 where
  pub fits : FitsApdu a
  pub fill_fits : fill < 2 ^ fill_width a
  pub payload : AreBytes a.payload
  pub bits : body ≡ header_with fill a ++ a.payload

-- the body spells the APDU
abbrev pub SpellsApdu : List ℕ → Apdu → Type 0
SpellsApdu body a = (fill : ℕ) × SpellsWith fill body a

-- the answer is an APDU exactly where the body spells one, and is that one
abbrev pub IsReadingOf : List ℕ → Result Apdu ApduFault → Type 0
IsReadingOf body answer = (a : Apdu) → (answer ≡ Ok a) ↔ SpellsApdu body a
