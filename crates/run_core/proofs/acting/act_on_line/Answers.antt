use Rattle.std.proofs.Common.{◌∙◌}
use Rattle.run_core.proofs.Stable.{long-reading, short-reading}
use Rattle.run_core.proofs.acting.act_on_line.Goals as goal

pub returns-then-line-gt-LINE_LIMIT-clause-acted : goal.returns-then-line-gt-LINE_LIMIT-clause-acted
returns-then-line-gt-LINE_LIMIT-clause-acted g c = λ table past stands.
    c.refuse.ensures.refused _ (long-reading (g.A.Actor.work.told table) past c.args.line.now c.if-line-gt-LINE_LIMIT.true)

pub returns-in-Err-Refused-clause-acted : goal.returns-in-Err-Refused-clause-acted
returns-in-Err-Refused-clause-acted g c = λ table past stands.
    let acted = c.in-Err-Refused.ensures.acted table past stands in
    let told = rw c.in-Err-Refused.field-0-is at acted in
    c.refuse-in-Err-Refused.ensures.refused _
    (short-reading (g.A.Actor.work.told table) past c.args.line.now c.if-line-gt-LINE_LIMIT.false ∙ told)
