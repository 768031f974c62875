-- A line as the program reads it, for the definitions.
use Rattle.std.specs.Prelude.{◌≡◌, ℕ, ◌<◌, ◌≤◌, ◌^◌, All, List, length}
use Rattle.std.specs.Str.{IsUtf8}
use Rattle.std.specs.String.{string_bytes}
use Rattle.fisb_time.specs.Moment.{IsMoment}
use Rattle.radar_core.specs.Cells.{IsCells}
use Rattle.radar_core.specs.declared.key.BlockKey.{BlockKey}
use Rattle.uplink_frame.specs.Station.{FitsStation}
use Rattle.uplink_weave.specs.Woven.{frame_bytes}
use Rattle.script_core.specs.declared.script_line.Line as rust
use Rattle.script_core.specs.declared.script_line.Line.TheVariants as lines
use Rattle.script_core.specs.Script.{Line, empty, station, text, radar, blank, turn, hear, rx}
use Rattle.script_core.specs.Script.{show}

abbrev pub line_view : rust.Line → Line
line_view lines.Nothing = empty
line_view (lines.Station id) = station id
line_view (lines.Text moment version report) = text moment version (string_bytes report)
line_view (lines.Radar moment version key cells) = radar moment version key cells
line_view (lines.Blank moment version product scale south numbers) =
    blank moment version product scale south numbers
line_view (lines.Turn moment slot) = turn moment slot
line_view (lines.Hear moment frame wrong) = hear moment frame wrong
line_view (lines.Rx moment air) = rx moment air
line_view (lines.Show moment) = show moment

-- the ranges of the fields of a key: scale 3 too has a form, which no record can name
pub record FitsFields (key : BlockKey) : Type 0 where
  pub product : key.product < 2048
  pub scale : key.scale < 4
  pub number : key.number < 2 ^ 20

-- what names empty blocks: a product, a scale, and not more numbers than their line has bytes
pub record FitsBlanks (size product scale : ℕ) (numbers : List ℕ) : Type 0 where
  pub product_range : product < 2048
  pub scale_range : scale < 4
  pub numbers_range : All (λ number. number < 2 ^ 20) numbers
  pub count : length numbers ≤ size

-- 552 bytes
pub record IsAir (air : List ℕ) : Type 0 where
  pub count : length air ≡ frame_bytes
  pub bytes : All (λ byte. byte < 256) air

-- the ranges of what a line of so many bytes says
abbrev pub HasRanges : ℕ → Line → Type 0
HasRanges size empty = Unit {0}
HasRanges size (station id) = FitsStation id
HasRanges size (text moment version report) =
    IsMoment moment × IsMoment version × IsUtf8 report × (length report ≤ size)
HasRanges size (radar moment version key cells) =
    IsMoment moment × IsMoment version × FitsFields key × IsCells cells
HasRanges size (blank moment version product scale south numbers) =
    IsMoment moment × IsMoment version × FitsBlanks size product scale numbers
HasRanges size (turn moment slot) = IsMoment moment × (slot < 32)
HasRanges size (hear moment frame wrong) =
    IsMoment moment × (frame < 2 ^ 32) × All (λ one. (one.0 < frame_bytes) × (one.1 < 256)) wrong
HasRanges size (rx moment air) = IsMoment moment × IsAir air
HasRanges size (show moment) = IsMoment moment
