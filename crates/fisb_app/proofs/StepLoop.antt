-- The steps of a workload, one after another.
use Rattle.std.proofs.Common.{◌≡◌, ℕ, ◌<◌, List, [], ◌∷◌, length, ap, sym, ◌∙◌, arith}
use Rattle.life_table.specs.LifeTable.{LifeTable, default_table}
use Rattle.script_core.specs.Script.{Line}
use Rattle.workload.specs.declared.step.Step.{Step}
use Rattle.fisb_app.specs.declared.making.Making.{Making}
use Rattle.fisb_app.specs.Stands.{Sends, Hears}
use Rattle.fisb_app.specs.declared.counts.Counts.{Counts}
use Rattle.workload.specs.Workload.{workload}
use Rattle.fisb_app.specs.Make.{after_step, after_steps, counts_of, summary, summary_text}
use Rattle.fisb_app.specs.MakingHolds.{MakingHolds}

-- some lines were acted on, and the steps that are still to come make of them the whole
pub record IsUnderWay {G E : Type 0} (sends : Sends G) (hears : Hears E) (table : LifeTable) (all rest : List Step) (making : Making G E) : Type 0 where
  pub acted : List Line
  pub holds : MakingHolds sends hears table acted making
  pub whole : after_steps table acted rest ≡ after_steps table [] all

pub at-first : {G E : Type 0} (sends : Sends G) (hears : Hears E) (table : LifeTable) (all rest : List Step) (making : Making G E) → rest ≡ all → MakingHolds sends hears table [] making
    → IsUnderWay sends hears table all rest making
at-first sends hears table all rest making is h = record { acted = []; holds = h; whole = ap (after_steps table []) is }

pub one-further : {G E : Type 0} (sends : Sends G) (hears : Hears E) (table : LifeTable) (all steps rest : List Step) (step : Step) (old new : Making G E) → steps ≡ step ∷ rest
    → (w : IsUnderWay sends hears table all steps old) → MakingHolds sends hears table (after_step table w.acted step) new
    → IsUnderWay sends hears table all rest new
unfolding after_steps
one-further sends hears table all steps rest step old new is w h = record {
  acted = after_step table w.acted step;
  holds = h;
  whole = ap (after_steps table w.acted) (sym is) ∙ w.whole;
}

pub at-last : {G E : Type 0} (sends : Sends G) (hears : Hears E) (table : LifeTable) (all steps : List Step) (making : Making G E) → steps ≡ []
    → (w : IsUnderWay sends hears table all steps making) → w.acted ≡ after_steps table [] all
unfolding after_steps
at-last sends hears table all steps making is w = ap (after_steps table w.acted) (sym is) ∙ w.whole

pub fewer-steps : (steps rest : List Step) (step : Step) → steps ≡ step ∷ rest → length rest < length steps
fewer-steps steps rest step is = let many = ap length is in omega (arith, many)

-- the line of the numbers of the whole workload
pub summary-of : (count seed : ℕ) (counts : Counts) → counts ≡ counts_of default_table (after_steps default_table [] (workload count seed)) → summary_text count seed counts ≡ summary count seed
unfolding summary
summary-of count seed counts is = ap (summary_text count seed) is
