-- A payload as it is sent, in one APDU or cut into segments (RTCA DO-358, the segmentation of a
-- file).
use Rattle.std.specs.Prelude.{ℕ, zero, suc, ◌+◌, ◌-◌, ◌/◌, Bool, true, false, not, nat_le}
use Rattle.std.specs.Prelude.{if◌then◌else◌, List, [], ◌∷◌}
use Rattle.std.specs.Prelude.{length, take, drop, Option, Some, None}
use Rattle.std.specs.List.{range_with_len, slice_index_or}
use Rattle.fisb_time.specs.declared.form.TimeForm.{TimeForm}
use Rattle.fisb_time.specs.TimeFields.{shown_fields}
use Rattle.apdu_core.specs.declared.apdu.Seg.{Seg}
use Rattle.apdu_core.specs.Apdu.{Apdu, header_length}

-- a payload of a product and a version, whose time is sent in a form, under a file number
pub record File : Type 0 where
  pub product : ℕ
  pub form : TimeForm
  pub version : ℕ
  pub number : ℕ
  pub payload : List ℕ

-- an information frame that fills a frame alone has a body of so many bytes
abbrev pub body_limit : ℕ
body_limit = 422

-- the most bytes of a payload that is sent whole, and of a segment of a longer one: what the header
-- leaves
abbrev pub whole_limit : TimeForm → ℕ
whole_limit form = body_limit - header_length form false

abbrev pub segment_limit : TimeForm → ℕ
segment_limit form = body_limit - header_length form true

-- the most segments of a file that is read
abbrev pub most_segments : ℕ
most_segments = 64

-- so many pieces of this length, the last of which may be shorter
abbrev pub pieces : ℕ → ℕ → List ℕ → List (List ℕ)
pieces zero limit bytes = []
pieces (suc count) limit bytes = take limit bytes ∷ pieces count limit (drop limit bytes)

abbrev pub is_segmented : TimeForm → List ℕ → Bool
is_segmented form payload = not (nat_le (length payload) (whole_limit form))

-- how many segments a payload that is cut has: as few as hold it
abbrev pub segments_needed : TimeForm → List ℕ → ℕ
segments_needed form payload = (length payload + (segment_limit form - 1)) / segment_limit form

-- the parts of a payload, of which each is sent in an APDU of its own
abbrev pub parts : TimeForm → List ℕ → List (List ℕ)
parts form payload = if is_segmented form payload
    then pieces (segments_needed form payload) (segment_limit form) payload
    else payload ∷ []

abbrev pub parts_of : File → List (List ℕ)
parts_of f = parts f.form f.payload

-- the numbers of its segments, from 1 on
abbrev pub numbers_of : File → List ℕ
numbers_of f = range_with_len 1 (length (parts_of f))

-- the part that a segment carries
abbrev pub part_of : File → ℕ → List ℕ
part_of f number = slice_index_or (parts_of f) (number - 1) []

-- only the segments of a payload that is cut say which one they are
abbrev pub segmentation_of : File → ℕ → Option Seg
segmentation_of f number = if is_segmented f.form f.payload
    then Some (record { file = f.number; count = length (parts_of f); number = number })
    else None

abbrev pub apdu_of_segment : File → ℕ → Apdu
apdu_of_segment f number = record {
  product = f.product;
  form = f.form;
  time = shown_fields f.form f.version;
  segmentation = segmentation_of f number;
  payload = part_of f number;
}
