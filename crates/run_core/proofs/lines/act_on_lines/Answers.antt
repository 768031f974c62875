use Rattle.std.proofs.Common.{◌≡◌, ◌+◌, ◌≤◌, Some, None, Err, length, drop, refl, sym, ap, ◌∙◌, arith}
use Rattle.list_members.specs.Tests.{none_mapped}
use Rattle.refusal_core.specs.declared.reason.Reason.TheVariants.{LineLong}
use Rattle.run_core.specs.declared.input.Input.{Input}
use Rattle.run_core.specs.Reading.{newline_in}
use Rattle.run_core.specs.Run.{stopped}
use Rattle.run_core.proofs.Ends.{stop-run}
use Rattle.run_core.proofs.Steps.{at-more, at-line, line-stop, part-stop, failed-run, full-run}
use Rattle.run_core.proofs.Turns.{found-first, moved, at-end-read, count-more, count-less, within-less, clear-more}
use Rattle.run_core.proofs.lines.act_on_lines.Goals as goal

pub returns-in-Err-clause-ran : goal.returns-in-Err-clause-ran
returns-in-Err-clause-ran g c = λ old table at.
    let here = c.loop-end.invariant.1 old table at in
    let within = c.loop-end.invariant.0.within in
    let found : newline_in c.loop-end.input.ring.items ≡ Some c.in-Some.end = found-first c.in-Some.end c.loop-end.input.ring.items c.in-Some.ensures.end in
    let stopped-on = c.in-Err.ensures.acted table here.past here.stands_for in
    let stop = line-stop g.A.Actor.work table c.loop-end.number old _ _ c.loop-end.input c.in-Some.end _ here found
    refl within.items within.taken in
    stop-run g.A.Actor.work old _ stopped c.loop-end.number _ _ _ c.in-Err.status stop stopped-on

pub loop-end-preserved-in-Some : goal.loop-end-preserved-in-Some
loop-end-preserved-in-Some g c =
    let kept = c.loop-end.invariant.0 in
    let dropped : c.drop_front.new.self.ring.items ≡ drop (c.in-Some.end + 1) c.loop-end.input.ring.items =
    ap (λ (i : Input). i.ring.items) c.drop_front.ensures in
    let capacity : c.drop_front.new.self.ring.capacity ≡ c.loop-end.input.ring.capacity = ap
    (λ (i : Input). i.ring.capacity) c.drop_front.ensures in
    let taken : c.drop_front.new.self.taken ≡ c.loop-end.input.taken = ap
    (λ (i : Input). i.taken) c.drop_front.ensures in
    let found : newline_in c.loop-end.input.ring.items ≡ Some c.in-Some.end = found-first c.in-Some.end c.loop-end.input.ring.items c.in-Some.ensures.end in
    let front : c.loop-end.number + 1 + length c.drop_front.new.self.ring.items ≤ c.drop_front.new.self.taken + 2 =
    count-less c.loop-end.number 2 c.loop-end.input c.drop_front.new.self c.in-Some.end found dropped taken kept.count in (
      record {
        within = within-less c.loop-end.input c.drop_front.new.self
            (c.in-Some.end + 1) dropped capacity taken kept.within;
        count = front;
        clear = λ e. cc;
        asks_none = c.act_on_next.ensures.spare;
        reach_is = c.act_on_next.ensures.reach ∙ kept.reach_is;
      },
      λ old table at.
          let here = c.loop-end.invariant.1 old table at in
          let acted = c.in_default-act_on_next.ensures.acted table here.past here.stands_for in
          at-line g.A.Actor.work table c.loop-end.number old (λ past. g.A.Actor.stands table past c.loop-end.actor)
          (λ past. g.A.Actor.stands table past c.act_on_next.new.actor)
          _ _ _ _ _ _ c.loop-end.input c.drop_front.new.self c.in-Some.end _ acted.0 here found
          refl acted.1 dropped taken,
    )

pub returns-then-len-gt-LINE_LIMIT-clause-ran : goal.returns-then-len-gt-LINE_LIMIT-clause-ran
returns-then-len-gt-LINE_LIMIT-clause-ran g c = λ old table at.
    let here = c.loop-end.invariant.1 old table at in
    let kept = c.loop-end.invariant.0.within in
    let none : newline_in c.loop-end.input.ring.items ≡ None = none_mapped (λ end. 0 + end)
    (newline_in c.loop-end.input.ring.items) (sym c.in_default.ensures.end) in
    let len = c.len.ensures.len in
    let over = c.if-len-gt-LINE_LIMIT.true in
    let stop = part-stop g.A.Actor.work table c.loop-end.number old
    (λ past. g.A.Actor.stands table past c.loop-end.actor) _ c.loop-end.input here none
    (omega (arith, len, over)) kept.items kept.taken in
    stop-run g.A.Actor.work old _ stopped c.loop-end.number (Err LineLong) _ _ c.refuse.result stop
    (c.refuse.ensures.refused (Err LineLong) refl)

pub loop-end-preserved-in-Line : goal.loop-end-preserved-in-Line
loop-end-preserved-in-Line g c =
    let kept = c.loop-end.invariant.0 in
    let read = c.in-Line.ensures.read in (
      record {
        within = c.read_on.ensures.within;
        count = count-more c.loop-end.number 2 c.loop-end.input c.read_on.new.self _ _ _ _ read.0 read.1 kept.count;
        clear = λ e. cc;
        asks_none = kept.asks_none;
        reach_is = kept.reach_is;
      },
      λ old table at. at-more g.A.Actor.work table c.loop-end.number old
          (λ past. g.A.Actor.stands table past c.loop-end.actor) _ _ _ _ _ _ c.loop-end.input c.read_on.new.self read.0
          (c.loop-end.invariant.1 old table at) read.1,
    )

pub loop-end-preserved : goal.loop-end-preserved
loop-end-preserved g c =
    let kept = c.loop-end.invariant.0 in
    let read = c.in-More.ensures.read in
    let none : newline_in c.loop-end.input.ring.items ≡ None = none_mapped (λ end. 0 + end)
    (newline_in c.loop-end.input.ring.items) (sym c.in_default.ensures.end) in (
      record {
        within = c.read_on.ensures.within;
        count = count-more c.loop-end.number 2 c.loop-end.input c.read_on.new.self _ _ _ _ read.0 read.1 kept.count;
        clear = λ e. clear-more 0 c.loop-end.input c.read_on.new.self _ _ _ _ read.0 read.1 (omega arith) none read.2;
        asks_none = kept.asks_none;
        reach_is = kept.reach_is;
      },
      λ old table at. at-more g.A.Actor.work table c.loop-end.number old
          (λ past. g.A.Actor.stands table past c.loop-end.actor) _ _ _ _ _ _ c.loop-end.input c.read_on.new.self read.0
          (c.loop-end.invariant.1 old table at) read.1,
    )

pub returns-in-End-clause-ran : goal.returns-in-End-clause-ran
returns-in-End-clause-ran g c = λ old table at.
    let read = c.in-End.ensures.read in
    let same = read.0 in
    let none : newline_in c.loop-end.input.ring.items ≡ None = none_mapped (λ end. 0 + end)
    (newline_in c.loop-end.input.ring.items) (sym c.in_default.ensures.end) in
    let here = moved g.A.Actor.work table
    (λ past. g.A.Actor.stands table past c.loop-end.actor) c.loop-end.number old _ c.loop-end.input c.read_on.new.self same (c.loop-end.invariant.1 old table at) in
    c.act_on_last.ensures.ran old _ _ table
    (at-end-read g.A.Actor.work table
    (λ past. g.A.Actor.stands table past c.loop-end.actor) c.loop-end.number old _ _ _ _ _ _ c.read_on.new.self read.1 read.3 here)
    read.2 (ap (λ (i : Input). newline_in i.ring.items) same ∙ none)

pub returns-in-Failed-clause-ran : goal.returns-in-Failed-clause-ran
returns-in-Failed-clause-ran g c = λ old table at.
    let read = c.in-Failed.ensures.read in
    let here = c.loop-end.invariant.1 old table at in
    let none : newline_in c.loop-end.input.ring.items ≡ None = none_mapped (λ end. 0 + end)
    (newline_in c.loop-end.input.ring.items) (sym c.in_default.ensures.end) in
    let len = c.len.ensures.len in
    let short = c.if-len-gt-LINE_LIMIT.false in
    failed-run g.A.Actor.work table c.loop-end.number old
    (λ past. g.A.Actor.stands table past c.loop-end.actor) _ c.loop-end.input _ _ here none
    (omega (arith, len, short)) c.loop-end.invariant.0.within.taken
    read.1 read.2

pub returns-in-Full-clause-ran : goal.returns-in-Full-clause-ran
returns-in-Full-clause-ran g c = λ old table at.
    let read = c.in-Full.ensures.read in
    let here = c.loop-end.invariant.1 old table at in
    let none : newline_in c.loop-end.input.ring.items ≡ None = none_mapped (λ end. 0 + end)
    (newline_in c.loop-end.input.ring.items) (sym c.in_default.ensures.end) in
    let len = c.len.ensures.len in
    let short = c.if-len-gt-LINE_LIMIT.false in
    full-run g.A.Actor.work table c.loop-end.number old
    (λ past. g.A.Actor.stands table past c.loop-end.actor) _ c.loop-end.input _ _ read.2.0 here none
    (omega (arith, len, short))
    read.1 read.2.1 read.3
