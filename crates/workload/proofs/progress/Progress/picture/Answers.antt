-- A minute ends with its picture.
use Rattle.std.proofs.Common.{◌≡◌, []}
use Rattle.workload.specs.declared.progress.Phase.TheVariants.{Picture}
use Rattle.workload.specs.Progress.{still_to_come}
use Rattle.workload.proofs.progress.Progress.picture.Goals as goal
use Rattle.workload.proofs.Ranges.{fits-at}
use Rattle.workload.proofs.Transitions.{rest-picture}

pub returns-clause-handed : goal.returns-clause-handed
unfolding still_to_come
returns-clause-handed c =
    let none : c.args.self.now.listed.items ≡ [] = fits-at c.args.self.now Picture c.requires.sound c.requires.phase in
    rest-picture c.args.self.now.left c.args.self.now.minute c.args.self.now.draws.state c.moment-moment.result c.args.self.now.listed.items c.args.self.now.phase
    c.requires.more none c.requires.phase c.moment-moment.ensures
