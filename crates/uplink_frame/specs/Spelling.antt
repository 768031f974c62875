-- Which information frames some bytes begin with, as the format states it: no field is looked for
-- here.
use Rattle.std.specs.Prelude.{◌≡◌, ℕ, ◌<◌, ◌^◌, List, [], ◌∷◌, ◌++◌, length}
use Rattle.uplink_frame.specs.UplinkFrame.{InformationFrame, frame_front}

-- the bytes begin with two that have this length and this type, with any reserved bits between
-- them, and others stand after
pub record BeginsWith (size kind : ℕ) (bytes behind : List ℕ) : Type 0 where
  pub size_fits : size < 2 ^ 9
  pub kind_fits : kind < 2 ^ 4
  pub reserved : ℕ
  pub reserved_fits : reserved < 2 ^ 3
  pub bits : bytes ≡ frame_front size reserved kind ++ behind

-- the list of frames ends here: fewer than two bytes are left, or length and type are both 0, or
-- the length is more than the bytes left after the two
pub data IsEnd (bytes : List ℕ) : Type 0 where
  few_left : length bytes < 2 → IsEnd bytes
  zeros : (behind : List ℕ) → BeginsWith 0 0 bytes behind → IsEnd bytes
  too_long : (size kind : ℕ) (behind : List ℕ) → BeginsWith size kind bytes behind
      → length behind < size → IsEnd bytes

-- the bytes begin with those of this frame, whose length and type are not both 0, and others stand
-- after
pub record SpellsFrame (frame : InformationFrame) (bytes behind : List ℕ) : Type 0 where
  pub begins : BeginsWith (length frame.body) frame.kind bytes (frame.body ++ behind)
  pub not_zeros : frame.kind ≡ 0 → 0 < length frame.body

-- the bytes begin with those of the frames, one after another, and the list ends after them
abbrev pub SpellsFrames : List InformationFrame → List ℕ → Type 0
SpellsFrames [] bytes = IsEnd bytes
SpellsFrames (frame ∷ frames) bytes =
    (behind : List ℕ) × SpellsFrame frame bytes behind × SpellsFrames frames behind
