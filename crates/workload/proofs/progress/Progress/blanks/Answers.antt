-- The listed blocks come after the last.
use Rattle.std.proofs.Common.{◌≡◌, ℕ, ◌≤◌, List, [], ◌∷◌, length, vec_len, ap, ◌∙◌, sym, arith}
use Rattle.std.proofs.lemmas.Bool.{eqb-true, eqb-false}
use Rattle.workload.specs.declared.step.Step.TheVariants.{Blanks}
use Rattle.workload.specs.Progress.{still_to_come}
use Rattle.workload.proofs.progress.Progress.blanks.Goals as goal
use Rattle.std.proofs.lemmas.List.{nil_from_length}
use Rattle.workload.proofs.Transitions.{rest-within, blanks-none, blanks-next}

pub returns-then-is_empty-clause-handed : goal.returns-then-is_empty-clause-handed
unfolding still_to_come
returns-then-is_empty-clause-handed c =
    let last : 100800 ≤ 100800 = omega arith in
    let none : c.args.self.now.listed.items ≡ [] =
    nil_from_length c.args.self.now.listed.items (sym c.args.self.now.listed.ok.0 ∙ eqb-true (vec_len c.args.self.now.listed) 0 (sym c.if-is_empty.ensures)) in
    rest-within _ _ _ _ _ _ _ _ _ [] c.requires.more c.requires.phase
    (blanks-none c.args.self.now.minute 100800 c.args.self.now.draws.state c.args.self.now.listed.items last none)

pub returns-clause-handed : goal.returns-clause-handed
unfolding still_to_come
returns-clause-handed c =
    let last : 100800 ≤ 100800 = omega arith in
    let some : c.args.self.now.listed.items ≡ [] → ⊥ =
    λ none. eqb-false (vec_len c.args.self.now.listed) 0 (sym c.if-is_empty.ensures) (c.args.self.now.listed.ok.0 ∙ ap (λ (l : List ℕ). length l) none) in
    rest-within _ _ _ _ _ _ _ _ _ (Blanks c.moment.result c.of.result ∷ []) c.requires.more c.requires.phase
    (blanks-next c.args.self.now.minute 100800 c.moment.result c.args.self.now.draws.state c.args.self.now.listed.items c.replace-numbers.new.dest.items c.of.result last
    some c.moment.ensures (c.of.ensures ∙ ap (λ v. v.items) c.replace-numbers.ensures.value))
