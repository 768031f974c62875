use Rattle.std.proofs.Common.{◌≡◌, take}
use Rattle.picture_core.specs.Key.{Key}
use Rattle.ground_core.specs.Views.{latest_at}
use Rattle.ground_core.specs.Putting.{AreWhole, values_of}
use Rattle.ground_core.specs.Rooms.{HaveRoomForAll}
use Rattle.ground_core.proofs.newest.Newest.reserve_all.Given as goal

abbrev pub invariant-loop-item : goal.invariant-loop-item
invariant-loop-item l = record {
  same : (other : Key) → latest_at l.self other ≡ latest_at l.fn.self other;
  room : AreWhole (values_of (take l.item-index l.items)) → HaveRoomForAll l.self (values_of (take l.item-index l.items));
}
