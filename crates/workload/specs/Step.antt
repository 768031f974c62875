-- The ranges of steps.
use Rattle.std.specs.Prelude.{◌<◌, length, All}
use Rattle.uplink_weave.specs.Woven.{frame_bytes}
use Rattle.workload.specs.declared.step.Step.{Step}
use Rattle.workload.specs.declared.step.Step.TheVariants.{Text, Block, Blanks, Turn, Hear, Show}

-- Whoever is given a step can take it: a text is short, a slot is one of 32, and only places of a
-- frame are changed.
abbrev pub FitsStep : Step → Type 0
FitsStep (Text moment text) = length text < 1000
FitsStep (Block moment number cells) = Unit {0}
FitsStep (Blanks moment numbers) = Unit {0}
FitsStep (Turn moment slot) = slot < 32
FitsStep (Hear moment changes) = All (λ change. change.0 < frame_bytes) changes
FitsStep (Show moment) = Unit {0}
