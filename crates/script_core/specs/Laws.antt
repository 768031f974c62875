-- The laws of the lines of a script.
use Rattle.std.specs.Prelude.{◌≡◌, ℕ, List, length, Some}
use Rattle.script_core.specs.Fields.{line_of}
use Rattle.script_core.specs.LineView.{HasRanges}
use Rattle.script_core.specs.Script.{Line}

-- what a line says is within its ranges
abbrev pub LinesHaveRanges : Type 0
LinesHaveRanges =
    (bytes : List ℕ) (line : Line) → line_of bytes ≡ Some line → HasRanges (length bytes) line
