-- The laws of radar records and of groups.
use Rattle.std.specs.Prelude.{◌≡◌, ℕ, ◌<◌, ◌≤◌, List, [], ◌∷◌, length, All, Ok, flat_map}
use Rattle.std.specs.List.{concat}
use Rattle.std.specs.List.Sorted.{IsStrictlyIncreasing}
use Rattle.bit_fields.specs.Bits.{AreBytes}
use Rattle.radar_core.specs.declared.key.BlockKey.{BlockKey}
use Rattle.radar_core.specs.declared.run.Run.{Run}
use Rattle.radar_core.specs.Keys.{FitsKey, first_high}
use Rattle.radar_core.specs.Cells.{IsCells}
use Rattle.radar_core.specs.Runs.{FitsRun, run_cells, longest_runs, run_record}
use Rattle.radar_core.specs.Blanks.{IsGroup, blank_record}
use Rattle.radar_core.specs.Groups.{blank_groups}
use Rattle.radar_core.specs.Radar.{radar_blocks, blank_blocks}

-- a length from 4 bytes to so many
pub record HasLength (most : ℕ) (bytes : List ℕ) : Type 0 where
  pub least_is : 4 ≤ length bytes
  pub most_is : length bytes ≤ most

-- the run record of a block reads back as that block; it is 4 to 131 bytes
pub record RunRecordReadsBack (key : BlockKey) (cells : List ℕ) : Type 0 where
  pub same : radar_blocks key.product (run_record key cells) ≡ Ok ((key, cells) ∷ [])
  pub size : HasLength 131 (run_record key cells)
  pub bytes : AreBytes (run_record key cells)

abbrev pub RunRecordsReadBack : Type 0
RunRecordsReadBack =
    (key : BlockKey) (cells : List ℕ) → FitsKey key → IsCells cells → RunRecordReadsBack key cells

-- the empty record of a group reads back as the blocks of the group; it is 4 to 18 bytes
pub record BlankRecordReadsBack (base : BlockKey) (further : List ℕ) : Type 0 where
  pub same : radar_blocks base.product (blank_record base further)
      ≡ Ok (blank_blocks base (base.number ∷ further))
  pub size : HasLength 18 (blank_record base further)
  pub bytes : AreBytes (blank_record base further)

abbrev pub BlankRecordsReadBack : Type 0
BlankRecordsReadBack = (base : BlockKey) (further : List ℕ) → base.scale ≤ 2
    → base.number < first_high
    → IsGroup base.number further
    → BlankRecordReadsBack base further

-- the longest runs of some intensities spell them, each fits its byte, and no fewer runs spell them
pub record AreFewestRuns (cells : List ℕ) : Type 0 where
  pub spell : flat_map run_cells (longest_runs cells) ≡ cells
  pub fit : All FitsRun (longest_runs cells)
  pub fewest : (runs : List Run) → All FitsRun runs → flat_map run_cells runs ≡ cells
      → length (longest_runs cells) ≤ length runs

abbrev pub LongestRunsAreFewest : Type 0
LongestRunsAreFewest = (cells : List ℕ) → All (λ cell. cell < 8) cells → AreFewestRuns cells

-- a group has a first number, and one record can name it and the others
abbrev pub IsOneRecord : List ℕ → Type 0
IsOneRecord [] = ⊥
IsOneRecord (base ∷ further) = (base < first_high) × IsGroup base further

-- the groups of rising numbers, one after another, are those numbers, so each number is in one
-- group; one record names each group
pub record IsGrouping (numbers : List ℕ) : Type 0 where
  pub all : concat (blank_groups numbers) ≡ numbers
  pub records : All IsOneRecord (blank_groups numbers)

abbrev pub GroupsAreRecords : Type 0
GroupsAreRecords = (numbers : List ℕ) → IsStrictlyIncreasing numbers
    → All (λ number. number < first_high) numbers → IsGrouping numbers
