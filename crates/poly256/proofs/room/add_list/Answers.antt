use Rattle.std.proofs.Common.{arith, ap, sym, ◌∙◌}
use Rattle.poly256.specs.Polynomial.{sum_of}
use Rattle.poly256.proofs.Rooms.{raised_coefficients-zero, list_step, list_end}
use Rattle.poly256.proofs.room.add_list.Goals as goal

pub loop-i-init : goal.loop-i-init
loop-i-init c = ap (sum_of c.args.room.now) (raised_coefficients-zero c.args.list.now)

pub loop-i-preserved : goal.loop-i-preserved
loop-i-preserved c =
    list_step c.loop-i.room c.args.list.now c.loop-i.i (omega arith) (omega arith) ∙ c.loop-i.invariant

pub returns : goal.returns
returns c = sym (list_end c.loop-i.room c.args.list.now c.loop-i.i (omega arith)) ∙ c.loop-i.invariant
