-- What is not over is a filter.
use Rattle.std.proofs.Common.{ℕ, ◌∙◌, ap, map}
use Rattle.picture_core.specs.Kept.{live_entries}
use Rattle.picture_core.specs.Views.{pair_entry}
use Rattle.picture_core.proofs.KeptPairs.{live-pairs}
use Rattle.picture_core.proofs.kept.drop_ended.Goals as goal

pub returns-clause-entries : goal.returns-clause-entries
returns-clause-entries c =
    let pairs = c.args.kept.now.entries in
    ap (map pair_entry) c.purge.ensures.entries
    ∙ live-pairs c.seconds.result pairs
    ∙ ap (λ (m : ℕ). live_entries m (map pair_entry pairs)) c.seconds.ensures.value
