use Rattle.std.proofs.Common.{◌++◌, Ok, ap, ◌∙◌, option_to_list}
use Rattle.life_table.specs.LifeTable.{default_table}
use Rattle.workload.specs.Workload.{workload}
use Rattle.ground_core.specs.StandsFor.{StandsFor}
use Rattle.fisb_app.specs.Make.{counts_of}
use Rattle.fisb_app.proofs.StepLoop.{one-further, at-last}
use Rattle.fisb_app.proofs.make.counts_after.Goals as goal

pub loop-making-preserved-in_ok-take : goal.loop-making-preserved-in_ok-take
loop-making-preserved-in_ok-take g c =
    let w = c.loop-making.invariant in
    one-further (λ table station history ground. StandsFor table station ground history) g.E.Ear.stands default_table (workload c.args.count c.args.seed) c.loop-making.steps c.next_step.new.self c.in-Some.step c.loop-making.making c.take.new.self
    (c.in_ok-step.ensures.handed ∙ ap (λ step. option_to_list step ++ c.next_step.new.self) c.in-Some.is) w
    (c.in_ok-take.ensures default_table w.acted w.holds)

pub loop-making-preserved-in_ok-take-2 : goal.loop-making-preserved-in_ok-take-2
loop-making-preserved-in_ok-take-2 g c =
    let w = c.loop-making.invariant in
    one-further (λ table station history ground. StandsFor table station ground history) g.E.Ear.stands default_table (workload c.args.count c.args.seed) c.loop-making.steps c.next_step.new.self c.in-Some.step c.loop-making.making c.take.new.self
    (c.in_ok-step.ensures.handed ∙ ap (λ step. option_to_list step ++ c.next_step.new.self) c.in-Some.is) w
    (c.in_ok-take.ensures default_table w.acted w.holds)

pub loop-making-preserved-in_ok-take-3 : goal.loop-making-preserved-in_ok-take-3
loop-making-preserved-in_ok-take-3 g c =
    let w = c.loop-making.invariant in
    one-further (λ table station history ground. StandsFor table station ground history) g.E.Ear.stands default_table (workload c.args.count c.args.seed) c.loop-making.steps c.next_step.new.self c.in-Some.step c.loop-making.making c.take.new.self
    (c.in_ok-step.ensures.handed ∙ ap (λ step. option_to_list step ++ c.next_step.new.self) c.in-Some.is) w
    (c.in_ok-take.ensures default_table w.acted w.holds)

pub loop-making-preserved : goal.loop-making-preserved
loop-making-preserved g c =
    let w = c.loop-making.invariant in
    one-further (λ table station history ground. StandsFor table station ground history) g.E.Ear.stands default_table (workload c.args.count c.args.seed) c.loop-making.steps c.next_step.new.self c.in-Some.step c.loop-making.making c.take.new.self
    (c.in_ok-step.ensures.handed ∙ ap (λ step. option_to_list step ++ c.next_step.new.self) c.in-Some.is) w
    (c.in_ok-take.ensures default_table w.acted w.holds)

pub returns : goal.returns
returns g c =
    let w = c.loop-making.invariant in
    w.holds.counts
    ∙ ap (counts_of default_table)
    (at-last (λ table station history ground. StandsFor table station ground history) g.E.Ear.stands default_table (workload c.args.count c.args.seed) c.loop-making.steps c.loop-making.making
    (c.in_ok-step.ensures.end (ap Ok c.in_default.is)) w)
