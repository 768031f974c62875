-- What is still to come of a workload.
use Rattle.std.specs.Prelude.{◌≡◌, ℕ, zero, suc, ◌+◌, ◌-◌, ◌*◌, ◌%◌, ◌==◌, ◌<◌, ◌≤◌}
use Rattle.std.specs.Prelude.{if◌then◌else◌, List, [], ◌++◌, Option, option_to_list}
use Rattle.workload.specs.declared.step.Step.{Step}
use Rattle.workload.specs.declared.step.Step.TheVariants.{Show}
use Rattle.workload.specs.declared.progress.Phase.{Phase}
use Rattle.workload.specs.declared.progress.Phase.TheVariants.{Metar, Taf, Block, Turn}
use Rattle.workload.specs.declared.progress.Phase.TheVariants.{Hearing, Picture}
use Rattle.workload.specs.declared.progress.Progress.{Progress}
use Rattle.workload.specs.Workload.{Part, nothing, step, ◌>>◌, each_from, moment_of_minute, minute}
use Rattle.workload.specs.Workload.{metar_in, taf_in, radar_in, blocks, hearing, second}

-- the picture of minute i
unfoldable pub picture_in : ℕ → Part
picture_in i = step (Show (moment_of_minute i + 59))

-- minute i from the turn of a second on
unfoldable pub turns : ℕ → ℕ → Part
turns i c = each_from c (60 - c) (second (moment_of_minute i)) >> picture_in i

-- minute i after its METARs
unfoldable pub after_metars : ℕ → Part
after_metars i = taf_in i >> (radar_in i >> turns i 0)

-- minute i from a phase on, where these blocks are listed as blank
unfoldable pub rest_of_minute : ℕ → List ℕ → Phase → Part
rest_of_minute i listed (Metar station) =
    each_from station (40 - station) (metar_in i) >> after_metars i
rest_of_minute i listed Taf = after_metars i
rest_of_minute i listed (Block number) =
    blocks (moment_of_minute i) listed number (100800 - number) >> turns i 0
rest_of_minute i listed (Turn c) = turns i c
rest_of_minute i listed (Hearing c) =
    (hearing (moment_of_minute i + c)
    >> each_from (c + 1) (60 - (c + 1)) (second (moment_of_minute i)))
    >> picture_in i
rest_of_minute i listed Picture = picture_in i

-- what comes after the TAF of minute i: radar, or else the turns
unfoldable pub phase_after_taf : ℕ → Phase
phase_after_taf i = if i % 5 == 0 then Block 99900 else Turn 0

-- so many minutes, of which the first, minute i, stands at a phase
unfoldable pub rest : ℕ → ℕ → List ℕ → Phase → Part
rest zero i listed phase = nothing
rest (suc more) i listed phase = rest_of_minute i listed phase >> each_from (i + 1) more minute

-- the steps that are still to come
unfoldable pub still_to_come : Progress → List Step
still_to_come p = (rest p.left p.minute p.listed.items p.phase p.draws.state).0

-- what may be handed out between two states: the first of the steps, or none of them
abbrev pub HandsOut : Progress → Progress → Option Step → Type 0
HandsOut before after handed = still_to_come before ≡ option_to_list handed ++ still_to_come after

-- a phase is in its range, and blocks are listed only while blocks are drawn
abbrev pub FitsPhase : Phase → List ℕ → Type 0
FitsPhase (Metar station) listed = (station ≤ 40) × (listed ≡ [])
FitsPhase Taf listed = listed ≡ []
FitsPhase (Block number) listed = (99900 ≤ number) × (number ≤ 100800)
FitsPhase (Turn c) listed = (c ≤ 60) × (listed ≡ [])
FitsPhase (Hearing c) listed = (c < 60) × (listed ≡ [])
FitsPhase Picture listed = listed ≡ []

pub record IsSound (p : Progress) : Type 0 where
  pub minutes : p.minute + p.left ≤ 1000
  pub phase : FitsPhase p.phase p.listed.items

-- how far the end of the minute is
abbrev pub distance_in_minute : Phase → ℕ
distance_in_minute (Metar station) = 1025 + (40 - station)
distance_in_minute Taf = 1024
distance_in_minute (Block number) = 123 + (100800 - number)
distance_in_minute (Turn c) = 2 + 2 * (60 - c)
distance_in_minute (Hearing c) = 1 + 2 * (60 - c)
distance_in_minute Picture = 1

-- how far the end of the workload is, which each step comes nearer to
abbrev pub distance : Progress → ℕ
distance p = p.left * 1100 + distance_in_minute p.phase
