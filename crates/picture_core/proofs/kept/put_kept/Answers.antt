-- A value that is written where none is as new is put.
use Rattle.std.proofs.Common.{◌∙◌, ap, map, subst, List}
use Rattle.std.specs.List.Sorted.{IsStrictlySortedBy}
use Rattle.std.specs.Map.{keys_of}
use Rattle.picture_core.specs.Views.{pair_entry}
use Rattle.picture_core.specs.contracts.key.KeyOrd.TheImpl as order
use Rattle.picture_core.specs.declared.kept.Kept.{Kept}
use Rattle.picture_core.specs.declared.key.Key.{Key}
use Rattle.picture_core.proofs.CodeOrder.{code_order}
use Rattle.picture_core.proofs.KeptPairs.{put-with_newer}
use Rattle.picture_core.proofs.kept.put_kept.Goals as goal

pub returns-clause-ok : goal.returns-clause-ok
returns-clause-ok c =
    ap (map pair_entry) c.in_ok-put.ensures.ok
    ∙ put-with_newer order.ghosts.cmp code_order c.args.key c.args.new c.args.kept.now.entries
    (subst (λ (es : List (Key × Kept)). IsStrictlySortedBy order.ghosts.cmp (keys_of es)) c.in_ok-put.ensures.ok
    c.in_ok-put.ensures.ordered)
