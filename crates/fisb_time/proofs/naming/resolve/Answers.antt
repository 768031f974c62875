-- The two answers: nothing is named where the fields are no time of the form; else what is made of
-- the latest second with these fields.
use Rattle.std.proofs.Common.{ℕ, refl, sym, IsSome, arith}
use Rattle.std.proofs.lemmas.Grind.{common_steps}
use Rattle.fisb_time.specs.Naming.{IsCandidate}
use Rattle.fisb_time.proofs.TimeLemmas.{candidate_time}
use Rattle.fisb_time.proofs.NamingLemmas.{named_moment-none, named_moment-by, none-by}
use Rattle.fisb_time.proofs.naming.resolve.Goals as goal

no_candidate :
    (c : goal.Then-not-is_time) (m : ℕ) → IsCandidate c.args.form c.args.fields.now c.args.received m → ⊥
no_candidate c m h =
    let time = candidate_time c.args.form c.args.fields.now c.args.received m h in
    grind (arith, common_steps)

pub returns-then-not-is_time-clause-none : goal.returns-then-not-is_time-clause-none
returns-then-not-is_time-clause-none c = (λ _. no_candidate c, λ _. refl)

pub returns-then-not-is_time-clause-found : goal.returns-then-not-is_time-clause-found
returns-then-not-is_time-clause-found c m h = absurd (no_candidate c m h)

pub returns-then-not-is_time-clause-value : goal.returns-then-not-is_time-clause-value
returns-then-not-is_time-clause-value c =
    sym (named_moment-none c.args.form c.args.fields.now c.args.received (no_candidate c))

pub returns-clause-names : goal.returns-clause-names
returns-clause-names c = grind (arith, common_steps)

pub returns-clause-found : goal.returns-clause-found
returns-clause-found c = grind (arith, common_steps)

pub returns-clause-none : goal.returns-clause-none
returns-clause-none c = (
  λ none m h. let some : IsSome c.new.result = returns-clause-found c m h in grind (arith, some),
  none-by c.args.form c.args.fields.now c.args.received c.new.result (returns-clause-names c),
)

pub returns-clause-value : goal.returns-clause-value
returns-clause-value c =
    named_moment-by c.args.form c.args.fields.now c.args.received c.new.result
    (returns-clause-names c) ((returns-clause-none c).0)
