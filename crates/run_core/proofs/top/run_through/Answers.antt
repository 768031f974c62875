use Rattle.std.proofs.Common.{◌≡◌, ℕ, false, List, [], None, Err, refl, ap, ◌∙◌, append-nil, sym}
use Rattle.refusal_core.specs.declared.reason.Reason.TheVariants.{NoTable, TableLong}
use Rattle.run_core.specs.Lines.{lines_in}
use Rattle.run_core.specs.Opening.{opening_at}
use Rattle.run_core.specs.Run.{at_end, stopped, task_of}
use Rattle.run_core.specs.Unbegun.{unbegun-run}
use Rattle.run_core.proofs.Ends.{stop-run}
use Rattle.run_core.proofs.Starts.{missing-stop, long-stop, failed-answer, filled-as}
use Rattle.run_core.proofs.top.run_through.Goals as goal

pub returns-in_default-clause-ran : goal.returns-in_default-clause-ran
returns-in_default-clause-ran g c = unbegun-run (task_of g.A.Actor.work) _

pub returns-in-Last-clause-ran : goal.returns-in-Last-clause-ran
returns-in-Last-clause-ran g c =
    let searched = c.in-Last.ensures.searched in
    c.start_last.ensures.ran _ _ _ (filled-as _ _ _ _ _ _ c.search.new.input searched.0 searched.3) searched.2 searched.1

pub returns-in-Missing-clause-ran : goal.returns-in-Missing-clause-ran
returns-in-Missing-clause-ran g c =
    let searched = c.in-Missing.ensures.searched in
    let filled = filled-as _ _ _ _ (g.K.Sink.written c.args.sink.now)
    (g.K.Sink.faults c.args.sink.now) c.search.new.input searched.0 searched.4 in
    stop-run g.A.Actor.work _ _ at_end 1 (Err NoTable) _ _ c.refuse.result
    (missing-stop g.A.Actor.work _ _ c.search.new.input filled searched.1 searched.2 c.search.ensures.within.taken searched.3) (c.refuse.ensures.refused (Err NoTable) refl)

pub returns-in-Long-clause-ran : goal.returns-in-Long-clause-ran
returns-in-Long-clause-ran g c =
    let searched = c.in-Long.ensures.searched in
    let filled = filled-as _ _ _ _ (g.K.Sink.written c.args.sink.now)
    (g.K.Sink.faults c.args.sink.now) c.search.new.input searched.0 searched.3 in
    let none : opening_at 0 1 (lines_in false c.search.new.input.ring.items) ≡ None =
    ap (λ (xs : List ℕ). opening_at 0 1 (lines_in false xs)) (sym (append-nil c.search.new.input.ring.items))
    ∙ searched.1 false [] in
    stop-run g.A.Actor.work _ _ stopped 1 (Err TableLong) _ _ c.refuse-in-Long.result
    (long-stop g.A.Actor.work _ _ c.search.new.input filled none searched.2 c.search.ensures.within.taken)
    (c.refuse-in-Long.ensures.refused (Err TableLong) refl)

pub returns-in-Failed-clause-ran : goal.returns-in-Failed-clause-ran
returns-in-Failed-clause-ran g c =
    let searched = c.in-Failed.ensures.searched in
    failed-answer g.A.Actor.work _ _ c.search.new.input searched.0.taken searched.0.consumed refl refl searched.3 searched.1 searched.2 c.search.ensures.within.taken
