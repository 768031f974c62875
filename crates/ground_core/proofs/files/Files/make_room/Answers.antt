use Rattle.std.proofs.Common.{sym, ◌∙◌}
use Rattle.std.specs.BTreeMap.{get}
use Rattle.list_members.specs.Tests.{none_from}
use Rattle.ground_core.proofs.MapKeys.{pair_cmp, reserve_count}
use Rattle.ground_core.proofs.files.Files.make_room.Goals as goal

pub returns-clause-same : goal.returns-clause-same
returns-clause-same c = λ v p. reserve_count c.seconds.result c.args.product v p (λ x y. get pair_cmp c.args.self.now.counts (x, y)) (get pair_cmp c.insert.new.self (v, p))
    (none_from _ (sym c.contains_key.ensures ∙ c.if-contains_key.false)) (c.in-Ok.ensures.updates.0 (v, p))
