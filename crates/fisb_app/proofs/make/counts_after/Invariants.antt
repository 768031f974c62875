-- What the steps handed out have made, and the steps that are still to come.
use Rattle.std.proofs.Common.{length}
use Rattle.life_table.specs.LifeTable.{default_table}
use Rattle.workload.specs.Workload.{workload}
use Rattle.ground_core.specs.StandsFor.{StandsFor}
use Rattle.fisb_app.proofs.StepLoop.{IsUnderWay}
use Rattle.fisb_app.proofs.make.counts_after.Given as goal

abbrev pub invariant-loop-making : goal.invariant-loop-making
invariant-loop-making g l =
    IsUnderWay (λ table station history ground. StandsFor table station ground history) g.E.Ear.stands default_table
    (workload l.count l.seed) l.steps l.making

abbrev pub decreases-loop-making : goal.decreases-loop-making
decreases-loop-making g l = length l.steps
