-- What is kept after puts and purges stands for all that was put.
use Rattle.std.proofs.Common.{List, [], ◌∷◌, arith}
use Rattle.std.specs.Prelude.{max}
use Rattle.picture_core.specs.Changes.{Change, puts, purges, entries_put, kept_after, last_purge, PutMonotone}
use Rattle.picture_core.specs.Kept.{IsStore}
use Rattle.picture_core.proofs.Pictures.{store_empty, store_put}
use Rattle.picture_core.proofs.PicturesForgotten.{store-forgets}

pub store_changed :
    (changes : List Change) → PutMonotone changes → IsStore (last_purge changes) (entries_put changes) (kept_after changes)
store_changed [] monotone = store_empty 0
store_changed (puts entry ∷ past) monotone =
    store_put (last_purge past) (entries_put past) (kept_after past) entry (store_changed past monotone.1) monotone.0
store_changed (purges moment ∷ past) monotone =
    store-forgets (last_purge past) moment (max moment (last_purge past)) (entries_put past) (kept_after past) (omega arith)
    (omega arith) (store_changed past monotone)
