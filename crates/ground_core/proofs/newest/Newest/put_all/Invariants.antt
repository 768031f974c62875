use Rattle.std.proofs.Common.{◌≡◌, drop}
use Rattle.picture_core.specs.Key.{Key}
use Rattle.ground_core.specs.Views.{latest_at}
use Rattle.ground_core.specs.Putting.{values_of, latest_put}
use Rattle.ground_core.specs.Rooms.{HaveRoomForAll}
use Rattle.ground_core.proofs.newest.Newest.put_all.Given as goal

abbrev pub invariant-loop-item : goal.invariant-loop-item
invariant-loop-item l = record {
  room : HaveRoomForAll l.self (values_of (drop l.item-index l.items));
  put : (other : Key) → latest_put other (values_of (drop l.item-index l.items)) (latest_at l.self other)
      ≡ latest_put other (values_of l.items) (latest_at l.fn.self other);
}
