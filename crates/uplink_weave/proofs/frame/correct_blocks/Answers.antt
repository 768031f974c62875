use Rattle.std.proofs.Common.{[], get_or, arith, refl, sym, subst}
use Rattle.rs_code.specs.CodeWord.{IsCorrectable}
use Rattle.uplink_weave.proofs.frame.correct_blocks.Goals as goal

pub returns-in-Err-clause-exactly : goal.returns-in-Err-clause-exactly
returns-in-Err-clause-exactly c = (
  λ yes. cc,
  λ all.
      c.in-Err.ensures.exactly.1
      (subst (IsCorrectable 92 20 120) (sym c.read_block.ensures) (all c.loop-number.number (omega arith))),
)

pub returns-in-Err-clause-lost : goal.returns-in-Err-clause-lost
returns-in-Err-clause-lost c = record {
  below = omega arith;
  lost = λ some.
      let yes = c.in-Err.ensures.exactly.1 (subst (IsCorrectable 92 20 120) (sym c.read_block.ensures) some) in
      cc;
  first = λ lower h. (get_or c.loop-number.words lower [], c.loop-number.invariant.near lower h);
}

pub returns-clause-exactly : goal.returns-clause-exactly
returns-clause-exactly c = (
  λ yes r h. (get_or c.loop-number.words r [], c.loop-number.invariant.near r (omega arith)),
  λ all. refl,
)

pub returns-clause-counts : goal.returns-clause-counts
returns-clause-counts c = record {
  six = c.loop-number.invariant.six;
  each = λ r h. (
    get_or c.loop-number.words r [],
    c.loop-number.invariant.near r (omega arith),
    c.loop-number.invariant.each r (omega arith),
  );
}
