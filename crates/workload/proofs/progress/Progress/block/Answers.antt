-- A block is given at once or listed.
use Rattle.std.proofs.Common.{ℕ, List, ◌<◌, [], ◌∷◌, ap, arith}
use Rattle.workload.specs.declared.progress.Phase.TheVariants.{Block}
use Rattle.workload.specs.Progress.{still_to_come, rest}
use Rattle.workload.proofs.progress.Progress.block.Goals as goal
use Rattle.workload.proofs.Ranges.{fits-at, on_error}
use Rattle.workload.proofs.Transitions.{rest-within, blocks-even, blocks-odd}

pub returns-in_err-push-clause-kept : goal.returns-in_err-push-clause-kept
unfolding still_to_come
returns-in_err-push-clause-kept c =
    on_error c.from_residual.result
    (ap (λ (listed : List ℕ). (rest c.args.self.now.left c.args.self.now.minute listed c.args.self.now.phase c.args.self.now.draws.state).0) c.in_err-push.ensures.items)

pub returns-then-not-is_given-clause-handed : goal.returns-then-not-is_given-clause-handed
unfolding still_to_come
returns-then-not-is_given-clause-handed c =
    let fits = fits-at c.args.self.now (Block c.args.number) c.requires.sound c.requires.phase in
    let inside : c.args.number < 100800 = omega (arith, fits.1) in
    rest-within _ _ _ _ _ _ _ _ _ [] c.requires.more c.requires.phase
    (blocks-odd c.args.self.now.minute c.args.number c.args.self.now.draws.state c.next_number.result c.next_number.new.self.state c.args.self.now.listed.items c.push.new.self.items
    inside c.next_number.ensures.number c.next_number.ensures.state c.if-not-is_given.true c.in_ok-push.ensures.items)

pub returns-clause-handed : goal.returns-clause-handed
unfolding still_to_come
returns-clause-handed c =
    let fits = fits-at c.args.self.now (Block c.args.number) c.requires.sound c.requires.phase in
    let inside : c.args.number < 100800 = omega (arith, fits.1) in
    rest-within _ _ _ _ _ _ _ _ _ (c.block-step.result ∷ []) c.requires.more c.requires.phase
    (blocks-even c.args.self.now.minute c.args.number c.moment.result c.args.self.now.draws.state c.next_number.result c.next_number.new.self.state c.block-step.new.self.state
    c.args.self.now.listed.items (c.block-step.result ∷ []) inside c.next_number.ensures.number c.next_number.ensures.state c.if-not-is_given.false c.moment.ensures c.block-step.ensures)
