use Rattle.std.proofs.Common.{◌≡◌, ℕ, ◌+◌, List, [], Ok, Err, length, take, drop, refl, sym, ap, subst, ◌∙◌}
use Rattle.run_core.specs.declared.input.Input.{Input}
use Rattle.run_core.specs.Actor.{HasOpened}
use Rattle.run_core.specs.Run.{stopped}
use Rattle.run_core.proofs.Ends.{stop-run}
use Rattle.run_core.proofs.Starts.{start-at, table-stop}
use Rattle.run_core.proofs.top.start.Goals as goal

pub returns-in-Ok-clause-ran : goal.returns-in-Ok-clause-ran
returns-in-Ok-clause-ran g c = λ old filled found.
    let value = c.make_contiguous-bytes.ensures.value in
    let whole = c.make_contiguous-bytes.ensures.same_len c.make_contiguous-bytes.result.now (ap length value) ∙ value in
    let opened = subst (λ (xs : List ℕ). HasOpened (g.A.Actor.work.opened (take c.args.size xs))
    (g.A.Actor.stands (take c.args.size xs) []) (Ok c.in-Ok.actor)) value c.in-Ok.ensures in
    let dropped : c.drop_front.new.self.ring.items ≡ drop (c.args.size + 4) c.args.input.ring.items = ap
    (λ (i : Input). i.ring.items) c.drop_front.ensures ∙ ap (drop (c.args.size + 4)) whole in
    let taken : c.drop_front.new.self.taken ≡ c.args.input.taken = ap (λ (i : Input). i.taken) c.drop_front.ensures in
    c.act_on_lines.ensures.ran old (take c.args.size c.args.input.ring.items)
    (start-at g.A.Actor.work old _ c.args.input c.args.size c.args.number filled
    (λ past. g.A.Actor.stands (take c.args.size c.args.input.ring.items) past c.in-Ok.actor)
    c.drop_front.new.self found opened.0 opened.1 dropped taken)

pub returns-in-Err-Refused-clause-ran : goal.returns-in-Err-Refused-clause-ran
returns-in-Err-Refused-clause-ran g c = λ old filled found.
    let answered = c.in-Err-Refused.ensures in
    let refused = rw c.in-Err-Refused.field-0-is at answered in
    let table = ap (λ (xs : List ℕ). g.A.Actor.work.opened (take c.args.size xs)) c.make_contiguous-bytes.ensures.value in
    let stop = table-stop g.A.Actor.work old _ c.args.input c.args.size c.args.number filled c.in-Err-Refused.reason found (sym table ∙ refused) c.requires.within.items c.requires.within.taken in
    stop-run g.A.Actor.work old _ stopped c.args.number (Err c.in-Err-Refused.reason) _ _ c.refuse.result stop
    (c.refuse.ensures.refused (Err c.in-Err-Refused.reason) refl)
