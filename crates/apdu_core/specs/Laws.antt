-- The laws of APDUs.
use Rattle.std.specs.Prelude.{◌≡◌, ℕ, ◌+◌, ◌≤◌, List, length, is_some, Bool, Ok}
use Rattle.fisb_time.specs.declared.form.TimeForm.{TimeForm}
use Rattle.fisb_time.specs.Moment.{IsMoment}
use Rattle.fisb_time.specs.TimeFields.{shown_fields}
use Rattle.apdu_core.specs.Apdu.{Apdu, apdu_bytes, apdu_of, header_length}
use Rattle.apdu_core.specs.Spelling.{AreBytes, FitsApdu, FitsTime, IsReadingOf}

-- what is written of an APDU reads back as that APDU, its length is that of header and payload, and
-- it is made of bytes
pub record ReadsBack : Type 0 where
  pub same : (a : Apdu) → FitsApdu a → AreBytes a.payload → apdu_of (apdu_bytes a) ≡ Ok a
  pub size : (a : Apdu) → length (apdu_bytes a) ≡ header_length a.form (is_some a.segmentation)
      + length a.payload
  pub bytes : (a : Apdu) → AreBytes a.payload → AreBytes (apdu_bytes a)
  pub header_least : (form : TimeForm) (is_segmented : Bool) → 4 ≤ header_length form is_segmented
  pub header_most : (form : TimeForm) (is_segmented : Bool) → header_length form is_segmented ≤ 9

-- a list of bytes is read as an APDU exactly where it spells that APDU
abbrev pub SpellingIsReading : Type 0
SpellingIsReading = (body : List ℕ) → AreBytes body → IsReadingOf body (apdu_of body)

-- the fields of a moment fit in each form
abbrev pub ShownFits : Type 0
ShownFits =
    (form : TimeForm) (moment : ℕ) → IsMoment moment → FitsTime form (shown_fields form moment)
