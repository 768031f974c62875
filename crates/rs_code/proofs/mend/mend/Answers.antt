use Rattle.rs_code.proofs.Marked.{near_without_marks}
use Rattle.rs_code.proofs.mend.mend.Goals as goal

pub returns : goal.returns
returns g c = λ other near. c.mend_with.ensures other (near_without_marks g.row.N g.row.ROOTS g.row.FIRST c.args.word.now other near)
