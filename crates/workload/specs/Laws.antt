-- The laws of workloads.
use Rattle.std.specs.Prelude.{◌≡◌, ℕ, ◌+◌, ◌*◌, ◌%◌, ◌<◌, All}
use Rattle.uplink_weave.specs.Woven.{block_bytes}
use Rattle.workload.specs.Step.{FitsStep}
use Rattle.workload.specs.Workload.{workload}

-- every step is in its ranges
abbrev pub EveryStepFits : Type 0
EveryStepFits = (count seed : ℕ) → All FitsStep (workload count seed)

-- no byte of a block is changed twice: of at most eleven places, nine apart and round at its end,
-- no two are one
abbrev pub PlacesDiffer : Type 0
PlacesDiffer =
    (first t u : ℕ) → t < 11 → u < 11
    → (first + 9 * t) % block_bytes ≡ (first + 9 * u) % block_bytes → t ≡ u
