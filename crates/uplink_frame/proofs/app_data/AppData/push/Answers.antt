-- Two writes behind the frames: the length and the type, and the body.
use Rattle.std.proofs.Common.{ℕ, ◌+◌, ◌*◌, ◌/◌, ◌%◌, ◌<◌, List, [], ◌∷◌, ◌++◌, length, ap, ◌∙◌, inl, inr, refl, arith}
use Rattle.std.proofs.lemmas.Bool.{cases_eq}
use Rattle.uplink_frame.specs.UplinkFrame.{InformationFrame, FitsFrame}
use Rattle.uplink_frame.proofs.Pushed.{IsPushed, front_is, pushed}
use Rattle.uplink_frame.proofs.app_data.AppData.push.Goals as goal
use Rattle.uplink_frame.proofs.app_data.AppData.push.Goals.{After-put-2}

written :
    (c : After-put-2) →
    IsPushed c.self.inside.bytes c.put-2.new.bytes c.self.inside.used (record { kind = c.args.kind; body = c.args.body.now })
written c =
    let body = c.args.body.now in
    let short : length body < 512 = omega (arith, c.requires.body) in
    let small : c.args.kind < 16 = omega (arith, c.requires.kind) in
    let frame : InformationFrame = record { kind = c.args.kind; body = body } in
    let fits : FitsFrame frame = record {
      kind = small;
      body = short;
      goes_on = λ zero. elim (cases_eq (length body) 0) [
        | inl none ↦ absurd (c.requires.goes_on none zero)
        | inr some ↦ omega arith
      ];
    }
    in
    let front : List ℕ = length body / 2 ∷ (length body % 2 * 128 + c.args.kind) ∷ [] in
    pushed c.self.inside.bytes c.put.new.bytes c.put-2.new.bytes front c.self.inside.used frame c.self.invariant
    (omega arith) fits (omega arith) (ap (λ (b : List ℕ). b ++ body) (front_is (length body) c.args.kind short small)) refl
    c.put.ensures c.put-2.ensures

pub invariant_of-self : goal.invariant_of-self
invariant_of-self c = (written (goal.at.invariant_of-self c).After-put-2).filled

pub returns-clause-ok : goal.returns-clause-ok
returns-clause-ok c =
    (written (goal.at.returns-clause-ok c).After-put-2).frames_are
    ∙ ap (λ (fs : List InformationFrame). fs ++ record { kind = c.args.kind; body = c.args.body.now } ∷ []) c.self.view_is
