-- The workload: the list of its steps. Each block is of product 63, scale 0, north, and the version
-- of each update is its moment.
use Rattle.std.specs.Prelude.{ℕ, zero, suc, ◌+◌, ◌*◌, ◌%◌, ◌==◌, nat_lt, if◌then◌else◌}
use Rattle.std.specs.Prelude.{List, [], ◌∷◌, ◌++◌, codes}
use Rattle.workload.specs.declared.step.Step.{Step}
use Rattle.workload.specs.declared.step.Step.TheVariants.{Text, Block, Blanks, Turn, Hear, Show}
use Rattle.workload.specs.Draws.{Drawn, draw, draws, give, ◌>>=◌}
use Rattle.workload.specs.Texts.{report}
use Rattle.workload.specs.Blocks.{cells_of}
use Rattle.workload.specs.Hearings.{changes}

-- a part of the workload: its steps, which are made with draws
abbrev pub Part : Type 0
Part = Drawn (List Step)

abbrev pub nothing : Part
nothing = give []

abbrev pub step : Step → Part
step one = give (one ∷ [])

-- one part, and then another one
infixl 10 ◌>>◌
abbrev pub ◌>>◌ : Part → Part → Part
(first >> second) state =
    ((first state).0 ++ (second (first state).1).0, (second (first state).1).1)

-- a part for each of so many numbers, the first of them this one
unfoldable pub each_from : ℕ → ℕ → (ℕ → Part) → Part
each_from number zero part = nothing
each_from number (suc more) part = do
  part number
  each_from (number + 1) more part

-- a METAR of a station, of 4 to 11 words
unfoldable pub metar : ℕ → ℕ → Part
metar moment station = do
  count ← draw
  numbers ← draws 100000 (4 + count % 8)
  step (Text moment (report (codes "METAR") station numbers))

-- a TAF of a station, of 40 to 99 words
unfoldable pub taf : ℕ → ℕ → Part
taf moment station = do
  count ← draw
  numbers ← draws 100000 (40 + count % 60)
  step (Text moment (report (codes "TAF") station numbers))

-- a block that is given with its cells
unfoldable pub block : ℕ → ℕ → Part
block moment number = do
  intensities ← draws 8 16
  step (Block moment number (cells_of intensities))

-- the blocks of a list, given as blank in one update, unless there is none
unfoldable pub blanks : ℕ → List ℕ → Part
blanks moment [] = nothing
blanks moment (number ∷ numbers) = step (Blanks moment (number ∷ numbers))

-- So many blocks, the first of them this one, after those that are listed so far. Where a draw is
-- even, the block is given at once, and else it is listed. In the end the list is given as blank.
unfoldable pub blocks : ℕ → List ℕ → ℕ → ℕ → Part
blocks moment listed number zero = blanks moment listed
blocks moment listed number (suc more) = do
  drawn ← draw
  if drawn % 2 == 0
      then (block moment number >> blocks moment listed (number + 1) more)
      else blocks moment (listed ++ number ∷ []) (number + 1) more

-- the frame that was sent last is not heard where the draw is a multiple of 5, and else it is heard
-- with changes
unfoldable pub hearing : ℕ → Part
hearing moment = do
  drawn ← draw
  if drawn % 5 == 0 then nothing else do
    wrong ← changes 0 6
    step (Hear moment wrong)

-- a second: a turn, and the hearing of its frame
unfoldable pub second : ℕ → ℕ → Part
second start c = do
  step (Turn (start + c) (c % 32))
  hearing (start + c)

-- the moment at which a minute begins
abbrev pub moment_of_minute : ℕ → ℕ
moment_of_minute i = 1700000040 + 60 * i

-- the METAR of a station in the minutes that have its remainder by 30
unfoldable pub metar_in : ℕ → ℕ → Part
metar_in i s = if s % 30 == i % 30 then metar (moment_of_minute i) s else nothing

-- a TAF in the minutes whose remainder by 60 is a station
unfoldable pub taf_in : ℕ → Part
taf_in i = if nat_lt (i % 60) 40 then taf (moment_of_minute i) (i % 60) else nothing

-- radar in every fifth minute
unfoldable pub radar_in : ℕ → Part
radar_in i = if i % 5 == 0 then blocks (moment_of_minute i) [] 99900 900 else nothing

-- a minute of the workload
unfoldable pub minute : ℕ → Part
minute i = do
  each_from 0 40 (metar_in i)
  taf_in i
  radar_in i
  each_from 0 60 (second (moment_of_minute i))
  step (Show (moment_of_minute i + 59))

-- the steps of so many minutes, from a seed
unfoldable pub workload : ℕ → ℕ → List Step
workload count seed = (each_from 0 count minute seed).0
