use Rattle.ground_core.proofs.MapKeys.{least_above}
use Rattle.ground_core.proofs.files.Files.is_first_forgotten.Goals as goal

pub returns-in_default-clause-none : goal.returns-in_default-clause-none
returns-in_default-clause-none c = λ v p h. least_above c.args.self.now.counts c.in-Some.name.now c.args.over v p c.in-Some.ensures.least c.if-name-over.false h
