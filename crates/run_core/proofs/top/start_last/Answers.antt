use Rattle.std.proofs.Common.{ℕ, List, Err, take, refl, sym, ap, ◌∙◌}
use Rattle.run_core.specs.Run.{at_end}
use Rattle.run_core.proofs.Ends.{stop-run}
use Rattle.run_core.proofs.Starts.{last-table-done, last-table-stop}
use Rattle.run_core.proofs.top.start_last.Goals as goal

pub returns-in-Ok-clause-ran : goal.returns-in-Ok-clause-ran
returns-in-Ok-clause-ran g c = λ old left reads filled end last.
    let table = ap (λ (xs : List ℕ). g.A.Actor.work.opened (take c.args.size xs)) c.make_contiguous-bytes.ensures.value in
    last-table-done g.A.Actor.work old _ c.args.input c.args.size c.args.number filled last
    (sym table ∙ c.in-Ok.ensures.0) c.requires.within.taken end

pub returns-in-Err-Refused-clause-ran : goal.returns-in-Err-Refused-clause-ran
returns-in-Err-Refused-clause-ran g c = λ old left reads filled end last.
    let answered = c.in-Err-Refused.ensures in
    let refused = rw c.in-Err-Refused.field-0-is at answered in
    let table = ap (λ (xs : List ℕ). g.A.Actor.work.opened (take c.args.size xs)) c.make_contiguous-bytes.ensures.value in
    let stop = last-table-stop g.A.Actor.work old _ c.args.input c.args.size c.args.number filled c.in-Err-Refused.reason last (sym table ∙ refused) c.requires.within.items c.requires.within.taken end in
    stop-run g.A.Actor.work old _ at_end c.args.number (Err c.in-Err-Refused.reason) _ _ c.refuse.result stop
    (c.refuse.ensures.refused (Err c.in-Err-Refused.reason) refl)
