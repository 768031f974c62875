use Rattle.std.proofs.Common.{◌≡◌, ℕ, arith, ap, sym, ◌∙◌, take}
use Rattle.poly256.specs.Polynomial.{trimmed_coefficients}
use Rattle.poly256.proofs.Trims.{trimmed_coefficients-empty}
use Rattle.poly256.proofs.Rooms.{trimmed_coefficients-take_zero, trimmed_coefficients-take_here}
use Rattle.poly256.proofs.room.trimmed_len.Goals as goal

pub loop-len-preserved : goal.loop-len-preserved
loop-len-preserved c = (
  let fits = c.loop-len.invariant.0 in omega arith,
  trimmed_coefficients-take_zero c.args.list.now c.loop-len.len c.loop-len-test.true c.if-list-len-eq0.true ∙ c.loop-len.invariant.1,
)

pub returns-else-list-len-eq0-clause-value : goal.returns-else-list-len-eq0-clause-value
returns-else-list-len-eq0-clause-value c =
    sym (trimmed_coefficients-take_here c.args.list.now c.loop-len.len c.loop-len-test.true c.loop-len.invariant.0
    (omega (arith, c.if-list-len-eq0.false)))
    ∙ c.loop-len.invariant.1

pub returns-after-loop-len-clause-value : goal.returns-after-loop-len-clause-value
returns-after-loop-len-clause-value c =
    let none : c.loop-len.len ≡ 0 = omega arith in
    ap (λ (n : ℕ). take n c.args.list.now) none ∙ sym trimmed_coefficients-empty
    ∙ ap (λ (n : ℕ). trimmed_coefficients (take n c.args.list.now)) (sym none) ∙ c.loop-len.invariant.1
