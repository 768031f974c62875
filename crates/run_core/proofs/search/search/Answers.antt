use Rattle.std.proofs.Common.{sym, ◌∙◌, arith, true, false}
use Rattle.run_core.proofs.Searching.{search-found, search-line, search-long, search-failed, search-ended, search-read, search-clear}
use Rattle.run_core.proofs.search.search.Goals as goal

pub returns-then-is_end_at-clause-searched : goal.returns-then-is_end_at-clause-searched
returns-then-is_end_at-clause-searched g c =
    search-found _ _ _ _ c.loop-end.input c.loop-end.place c.loop-end.number c.loop-end.may_end c.loop-end.invariant
    c.is_end_at.new.input c.in-Some.end c.is_end_at.ensures.same c.in-Some.ensures.end
    (sym c.is_end_at.ensures.test ∙ c.if-is_end_at.true)

pub loop-end-preserved-in-Some : goal.loop-end-preserved-in-Some
loop-end-preserved-in-Some g c =
    search-line _ _ _ _ c.loop-end.input c.loop-end.place c.loop-end.number c.loop-end.may_end c.loop-end.invariant
    c.is_end_at.new.input c.in-Some.end c.is_end_at.ensures.same c.in-Some.ensures.end
    (sym c.is_end_at.ensures.test ∙ c.if-is_end_at.false)

pub returns-then-len-ge-RING_LIMIT-clause-searched : goal.returns-then-len-ge-RING_LIMIT-clause-searched
returns-then-len-ge-RING_LIMIT-clause-searched g c =
    search-long _ _ _ _ c.loop-end.input c.loop-end.place c.loop-end.number c.loop-end.may_end c.loop-end.invariant
    c.in_default.ensures.end (let len = c.len.ensures.len in
    let over = c.if-len-ge-RING_LIMIT.true in omega (arith, len, over))

pub loop-end-preserved : goal.loop-end-preserved
loop-end-preserved g c =
    let read = c.in-More.ensures.read in
    search-read _ _ _ _ _ _ c.loop-end.input c.read_on.new.self c.loop-end.place c.loop-end.number c.loop-end.may_end false read.0 c.loop-end.invariant read.1 c.read_on.ensures.within
    (λ e. search-clear _ _ _ _ c.loop-end.input c.loop-end.place c.loop-end.number c.loop-end.may_end c.loop-end.invariant _ _ c.read_on.new.self read.0 read.1 c.in_default.ensures.end read.2)

pub loop-end-preserved-in-Line : goal.loop-end-preserved-in-Line
loop-end-preserved-in-Line g c =
    let read = c.in-Line.ensures.read in
    search-read _ _ _ _ _ _ c.loop-end.input c.read_on.new.self c.loop-end.place c.loop-end.number c.loop-end.may_end true read.0 c.loop-end.invariant read.1 c.read_on.ensures.within
    (λ e. cc)

pub returns-in-End-clause-searched : goal.returns-in-End-clause-searched
returns-in-End-clause-searched g c =
    let read = c.in-End.ensures.read in
    search-ended _ _ _ _ c.loop-end.input c.loop-end.place c.loop-end.number c.loop-end.may_end c.loop-end.invariant _ _ c.read_on.new.self c.last_line.new.input c.last_line.result
    read.0 c.last_line.ensures.same c.in_default.ensures.end
    (let len = c.len.ensures.len in let short = c.if-len-ge-RING_LIMIT.false in omega (arith, len, short))
    read.1 read.2 read.3 c.last_line.ensures.looked

pub returns-in-Failed-clause-searched : goal.returns-in-Failed-clause-searched
returns-in-Failed-clause-searched g c =
    let read = c.in-Failed.ensures.read in
    search-failed _ _ _ _ c.loop-end.input c.loop-end.place c.loop-end.number c.loop-end.may_end c.loop-end.invariant _ _ c.read_on.new.self
    read.0 c.in_default.ensures.end (let len = c.len.ensures.len in
    let short = c.if-len-ge-RING_LIMIT.false in omega (arith, len, short)) read.1 read.2
