-- Run records (RTCA DO-358): after the front, each byte is a run of cells, 5 bits of its length
-- less 1 and 3 of its intensity.
use Rattle.std.specs.Prelude.{ℕ, ◌+◌, ◌-◌, ◌<◌, ◌≤◌, true, ◌&&◌, ◌==◌, nat_lt, if◌then◌else◌, List}
use Rattle.std.specs.Prelude.{[], ◌∷◌, ◌++◌, replicate, map, flat_map}
use Rattle.bit_fields.specs.Bits.{as_number, field_at}
use Rattle.radar_core.specs.declared.key.BlockKey.{BlockKey}
use Rattle.radar_core.specs.declared.run.Run.{Run}
use Rattle.radar_core.specs.Keys.{front_bytes}

-- a run has 1 to 32 cells, of an intensity from 0 to 7
pub record FitsRun (run : Run) : Type 0 where
  pub some : 1 ≤ run.length
  pub length : run.length ≤ 32
  pub intensity : run.intensity < 8

abbrev pub run_byte : Run → ℕ
run_byte run = as_number 0
    (record { width = 5; number = run.length - 1 } ∷ record { width = 3; number = run.intensity }
    ∷ [])

abbrev pub run_cells : Run → List ℕ
run_cells run = replicate run.length run.intensity

-- the run that a byte spells
abbrev pub run_in : ℕ → Run
run_in byte = record { length = field_at (byte ∷ []) 0 5 + 1; intensity = field_at (byte ∷ []) 5 3 }

-- the cells that bytes spell, run by run
abbrev pub cells_in : List ℕ → List ℕ
cells_in bytes = flat_map (λ byte. run_cells (run_in byte)) bytes

-- the runs of some cells after a run that is begun: it goes on while the intensity is the same and
-- it has room
abbrev pub runs_from : Run → List ℕ → List Run
runs_from run [] = run ∷ []
runs_from run (cell ∷ cells) = if (cell == run.intensity) && nat_lt run.length 32
    then runs_from (record { length = run.length + 1; intensity = run.intensity }) cells
    else run ∷ runs_from (record { length = 1; intensity = cell }) cells

-- the runs of some cells, each the longest possible up to 32. `Laws` says that they spell the
-- cells, and that no fewer do
unfoldable pub longest_runs : List ℕ → List Run
longest_runs [] = []
longest_runs (cell ∷ cells) = runs_from (record { length = 1; intensity = cell }) cells

-- the run record of a block
unfoldable pub run_record : BlockKey → List ℕ → List ℕ
run_record key cells = front_bytes true key ++ map run_byte (longest_runs cells)
