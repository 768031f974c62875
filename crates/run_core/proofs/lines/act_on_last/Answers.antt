use Rattle.std.proofs.Common.{◌≡◌, take, arith}
use Rattle.std.proofs.lemmas.Bool.Decides.{nat_tests}
use Rattle.std.proofs.lemmas.List.{take_all}
use Rattle.run_core.specs.Run.{at_end}
use Rattle.run_core.proofs.Ends.{stop-run}
use Rattle.run_core.proofs.Steps.{last-done, last-stop, end-done}
use Rattle.run_core.proofs.lines.act_on_last.Goals as goal

pub returns-then-end-eq0-clause-ran : goal.returns-then-end-eq0-clause-ran
returns-then-end-eq0-clause-ran g c = λ old left reads table at end none.
    end-done g.A.Actor.work table c.args.number old (λ past. g.A.Actor.stands table past c.args.actor) _ c.args.input at
    (grind (arith, nat_tests)) c.requires.within.taken end

pub returns-in-Ok-clause-ran : goal.returns-in-Ok-clause-ran
returns-in-Ok-clause-ran g c = λ old left reads table at end none.
    let acted = c.in-Ok.ensures.acted table at.past at.stands_for in
    let line : take c.len-end.result c.args.input.ring.items ≡ c.args.input.ring.items =
    take_all _ _ (let l = c.len-end.ensures.len in omega (arith, l)) in
    last-done g.A.Actor.work table c.args.number old
    (λ past. g.A.Actor.stands table past c.args.actor) _ c.args.input _ at _ _ _ acted.0 line none
    (grind (arith, nat_tests)) c.requires.within.taken end acted.1

pub returns-clause-ran : goal.returns-clause-ran
returns-clause-ran g c = λ old left reads table at end none.
    let stopped = c.in-Err.ensures.acted table at.past at.stands_for in
    let line : take c.len-end.result c.args.input.ring.items ≡ c.args.input.ring.items =
    take_all _ _ (let l = c.len-end.ensures.len in omega (arith, l)) in
    let stop = last-stop g.A.Actor.work table c.args.number old
    (λ past. g.A.Actor.stands table past c.args.actor) _ c.args.input _ at line none
    (grind (arith, nat_tests)) c.requires.within.items c.requires.within.taken end in
    stop-run g.A.Actor.work old _ at_end c.args.number _ _ _ c.in-Err.status stop stopped
