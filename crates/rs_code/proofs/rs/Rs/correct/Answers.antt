use Rattle.std.proofs.Common.{arith, sym, refl}
use Rattle.std.proofs.lemmas.Bool.{le-leb}
use Rattle.rs_code.specs.CodeWord.{differences, bound}
use Rattle.rs_code.proofs.Differences.{differences-same}
use Rattle.rs_code.proofs.rs.Rs.correct.Goals as goal

pub returns-then-all_zero-clause-corrected : goal.returns-then-all_zero-clause-corrected
returns-then-all_zero-clause-corrected g c =
    let none = differences-same c.args.word.now in (
      record {
        code = c.remainder-rest.ensures.code.0 (c.all_zero.ensures.0 c.if-all_zero.true);
        near = le-leb (differences c.args.word.now c.args.word.now) (bound g.row.ROOTS) (omega arith);
      },
      sym (differences-same c.args.word.now),
    )

pub returns-then-all_zero-clause-exactly : goal.returns-then-all_zero-clause-exactly
returns-then-all_zero-clause-exactly g c =
    (λ yes. (c.args.word.now, (returns-then-all_zero-clause-corrected g c).0), λ some. refl)

pub returns-then-all_zero-clause-function : goal.returns-then-all_zero-clause-function
returns-then-all_zero-clause-function g c =
    (c.corrected_is_nearest.ensures.nearest g.row.N g.row.ROOTS g.row.FIRST c.args.word.now c.args.word.now c.args.self.now.instance).1
    (returns-then-all_zero-clause-corrected g c).0
