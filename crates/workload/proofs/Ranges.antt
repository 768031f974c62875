-- The ranges of the phases.
use Rattle.std.proofs.Common.{◌≡◌, ℕ, ◌+◌, ◌*◌, ◌%◌, ◌<◌, Bool, true, false, cond, eqb, List, [], arith, ap, subst, sym}
use Rattle.std.specs.Prelude.{Result, Ok, Err, OnErr}
use Rattle.workload.specs.declared.progress.Phase.{Phase}
use Rattle.workload.specs.declared.progress.Phase.TheVariants.{Block, Turn, Taf}
use Rattle.workload.specs.declared.progress.Progress.{Progress}
use Rattle.workload.specs.Progress.{IsSound, phase_after_taf, FitsPhase, distance_in_minute}

fits : (b : Bool) (listed : List ℕ) → listed ≡ [] → FitsPhase (cond b (Block 99900) (Turn 0)) listed
fits true listed none = (omega arith, omega arith)
fits false listed none = (omega arith, none)

near : (b : Bool) → distance_in_minute (cond b (Block 99900) (Turn 0)) < 1024
near true = omega arith
near false = omega arith

-- what the phase at which it stands says
pub fits-at : (p : Progress) (phase : Phase) → IsSound p → p.phase ≡ phase → FitsPhase phase p.listed.items
fits-at p phase sound at = let P : Phase → Type 0 = λ q. FitsPhase q p.listed.items in subst P at sound.phase

pub FitsPhase-after_taf : (i : ℕ) (phase : Phase) (listed : List ℕ) → phase ≡ phase_after_taf i → listed ≡ [] → FitsPhase phase listed
unfolding phase_after_taf
FitsPhase-after_taf i phase listed after none = let P : Phase → Type 0 = λ p. FitsPhase p listed in subst P (sym after) (fits (eqb (i % 5) 0) listed none)

pub distance-after_taf : (i : ℕ) (phase : Phase) → phase ≡ phase_after_taf i → distance_in_minute phase < 1024
unfolding phase_after_taf
distance-after_taf i phase after = let P : Phase → Type 0 = λ p. distance_in_minute p < 1024 in subst P (sym after) (near (eqb (i % 5) 0))

pub distance-within : (p : Progress) (phase : Phase) → p.phase ≡ Taf → distance_in_minute phase < 1024 → p.left * 1100 + distance_in_minute phase < p.left * 1100 + distance_in_minute p.phase
distance-within p phase at h = let far : distance_in_minute p.phase ≡ 1024 = ap distance_in_minute at in omega arith

-- what holds in any case holds of an error
pub on_error : {A E : Type 0} {P : Type 0} (r : Result A E) → P → OnErr r P
on_error (Ok x) p = tt
on_error (Err e) p = p
