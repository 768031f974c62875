use Rattle.std.proofs.Common.{[], get_or, arith, rules}
use Rattle.uplink_weave.proofs.frame.unweave.Goals as goal

pub returns-in_err-counts-clause-first_lost : goal.returns-in_err-counts-clause-first_lost
returns-in_err-counts-clause-first_lost c =
    let gives = (c.functions_of_a_frame.ensures.lost c.args.air.now c.in_err-counts.field-0.0.block).1 c.in_err-counts.ensures.lost in
    search rules

pub returns-clause-payload : goal.returns-clause-payload
returns-clause-payload c = record {
  full = c.loop-number.invariant.full;
  parts = λ r h. (
    get_or c.correct_blocks.new.words r [],
    c.in_ok-counts.ensures.words r h,
    c.loop-number.invariant.parts r (omega arith),
  );
}

pub returns-clause-function : goal.returns-clause-function
returns-clause-function c =
    (c.functions_of_a_frame.ensures.payload c.args.air.now c.loop-number.payload).1 (returns-clause-payload c)
