use Rattle.std.proofs.Common.{ap, sym, refl, ◌∙◌, None, Some, Ok, ◌∷◌, rules}
use Rattle.script_core.specs.LineView.{line_view}
use Rattle.fisb_app.specs.Past.{lines_of}
use Rattle.fisb_app.specs.Output.{heard_picture}
use Rattle.fisb_app.specs.Stands.{IsInOrder}
use Rattle.fisb_app.proofs.Judging.{answer-formed, answer-front, front-kept, clear}
use Rattle.fisb_app.proofs.Steps.{tells-acted, in-order-more}
use Rattle.fisb_app.proofs.in_order.InOrderActor.act.Goals as goal

pub returns-in-Err-Syntax-clause-acted : goal.returns-in-Err-Syntax-clause-acted
returns-in-Err-Syntax-clause-acted g c = λ table past s.
    let party = g.P.LineActor.PARTY in
    answer-formed party heard_picture table past c.args.line.now (g.P.LineActor.table c.args.self.now.inner) None (g.P.LineActor.opened table (lines_of past) _ s.parts) (c.in-Err-Syntax.ensures.syntax (search rules))

pub returns-in-Some-clause-acted : goal.returns-in-Some-clause-acted
returns-in-Some-clause-acted g c = λ table past s.
    let party = g.P.LineActor.PARTY in
    let acted = lines_of past in
    let line = line_view c.in-Ok.line in
    let front = front-kept party acted line _ (Some c.in-Some.reason) s.clock (sym c.in-Some.is ∙ c.front_refusal.ensures) in
    answer-formed party heard_picture table past c.args.line.now (g.P.LineActor.table c.args.self.now.inner) (Some line) (g.P.LineActor.opened table (lines_of past) _ s.parts) c.in-Ok.ensures.line
    ∙ answer-front party heard_picture (g.P.LineActor.table c.args.self.now.inner) acted line (Some c.in-Some.reason) _ front refl

pub returns-in-Ok-act_on-clause-acted : goal.returns-in-Ok-act_on-clause-acted
returns-in-Ok-act_on-clause-acted g c = λ table past s.
    let party = g.P.LineActor.PARTY in
    let acted = lines_of past in
    let line = line_view c.in-Ok.line in
    let kept = g.P.LineActor.table c.args.self.now.inner in
    let front = front-kept party acted line _ None s.clock (sym c.in_default.is ∙ c.front_refusal.ensures) in
    let is = clear party acted line front in
    let tried = c.in-Ok-act_on.ensures.acted table acted is.here s.parts in (
      answer-formed party heard_picture table past c.args.line.now kept (Some line) (g.P.LineActor.opened table (lines_of past) _ s.parts) c.in-Ok.ensures.line
          ∙ answer-front party heard_picture kept acted line None None front tried.0 ∙ ap Ok (sym tried.1.0),
      in-order-more g.P.LineActor.holds table past c.args.line.now line c.args.self.now c.advance.new.self _ c.in-Ok.ensures.line s tried.1.1
          c.advance.ensures.inner c.advance.ensures.clock,
    )

pub returns-clause-acted : goal.returns-clause-acted
returns-clause-acted g c = λ table past s.
    let party = g.P.LineActor.PARTY in
    let acted = lines_of past in
    let line = line_view c.in-Ok.line in
    let kept = g.P.LineActor.table c.args.self.now.inner in
    let front = front-kept party acted line _ None s.clock (sym c.in_default.is ∙ c.front_refusal.ensures) in
    let is = clear party acted line front in
    let tried = c.in-Err.ensures.acted table acted is.here s.parts in
    tells-acted g.P.Given.Given.text (IsInOrder g.P.LineActor.holds table (c.args.line.now ∷ past) (record c.args.self.now { inner = c.act_on.new.self })) _ _ _ c.in-Err.stop
    (answer-formed party heard_picture table past c.args.line.now kept (Some line) (g.P.LineActor.opened table (lines_of past) _ s.parts) c.in-Ok.ensures.line
    ∙ answer-front party heard_picture kept acted line None _ front refl) tried
