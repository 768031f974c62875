-- The parts of a payload: joined they are the payload again, each of them fits a frame, and there
-- are few.
use Rattle.std.specs.Prelude.{◌≡◌, ℕ, ◌+◌, ◌*◌, ◌<◌, ◌≤◌, true, List, length}
use Rattle.std.specs.List.{concat}
use Rattle.bit_fields.specs.Bits.{AreBytes}
use Rattle.fisb_time.specs.declared.form.TimeForm.{TimeForm}
use Rattle.apdu_core.specs.Apdu.{header_length}
use Rattle.segment_core.specs.File.{File, body_limit, segment_limit, is_segmented, parts, parts_of}
use Rattle.segment_core.specs.File.{part_of}

-- in order they are the payload, and there is one at least
pub record ArePartsOf (form : TimeForm) (payload : List ℕ) : Type 0 where
  pub whole : concat (parts form payload) ≡ payload
  pub some : 1 ≤ length (parts form payload)

abbrev pub PartsAreWhole : Type 0
PartsAreWhole = (form : TimeForm) (payload : List ℕ) → ArePartsOf form payload

-- with its header a part fills a frame at most; a part of a payload that is cut has a byte at least
pub record IsPart (f : File) (number : ℕ) : Type 0 where
  pub fits : header_length f.form (is_segmented f.form f.payload)
      + length (part_of f number) ≤ body_limit
  pub filled : is_segmented f.form f.payload ≡ true → 0 < length (part_of f number)
  pub bytes : AreBytes f.payload → AreBytes (part_of f number)

abbrev pub PartsFitFrames : Type 0
PartsFitFrames =
    (f : File) (number : ℕ) → 1 ≤ number → number ≤ length (parts_of f) → IsPart f number

-- the most bytes that the six-bit codes of a text of 16,384 characters take, with the code of its
-- end
abbrev pub longest_text_payload : ℕ
longest_text_payload = 12289

abbrev pub TextsHaveFewParts : Type 0
TextsHaveFewParts = (form : TimeForm) (payload : List ℕ) → length payload ≤ longest_text_payload
    → length (parts form payload) ≤ 30

-- a payload of at most so many full segments has at most so many parts
abbrev pub PartsAreFew : Type 0
PartsAreFew = (form : TimeForm) (payload : List ℕ) (most : ℕ) → 1 ≤ most
    → length payload ≤ most * segment_limit form
    → length (parts form payload) ≤ most
