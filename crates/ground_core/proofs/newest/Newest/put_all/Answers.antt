use Rattle.std.proofs.Common.{◌+◌, ◌<◌, if◌then◌else◌, length, drop, Some, sym, ap, subst, ◌∙◌, arith}
use Rattle.ground_core.specs.Putting.{is_among, latest_put, latest_of_sent, values_of}
use Rattle.ground_core.specs.Rooms.{HaveRoomForAll}
use Rattle.ground_core.specs.Views.{given_view, keys_in, latest_at}
use Rattle.ground_core.specs.declared.item.SentItem.{SentItem}
use Rattle.ground_core.proofs.RoomLemmas.{rooms_stay, values_behind}
use Rattle.ground_core.proofs.newest.Newest.put_all.Goals as goal

pub loop-item-preserved : goal.loop-item-preserved
loop-item-preserved c =
    let items = c.args.items.now in
    let k = c.loop-item.item-index in
    let d = c.item-item.result in
    let below : k < length items = omega (arith, c.loop-item-test.true) in
    let e = values_behind items k d below c.item-item.is in
    let rest = values_of (drop (k + 1) items) in
    let old = c.loop-item.self in
    let new = c.put_reserved.new.self in
    let rooms = subst (HaveRoomForAll old) e c.loop-item.invariant.room in
    record {
      room = rooms_stay old new c.put_reserved.ensures.stays rest rooms.1;
      put = λ other.
          ap (latest_put other rest) (c.put_reserved.ensures.put other)
          ∙ ap (λ (i : SentItem). latest_put other rest (if is_among (keys_in i.keys) other then Some (given_view c.given_of.result) else latest_at old other)) c.deref.ensures
          ∙ ap (λ l. latest_put other rest (if is_among (keys_in d.value.keys) other then Some l else latest_at old other)) (c.given_of.ensures ∙ ap latest_of_sent c.deref-in-loop-item.ensures)
          ∙ ap (λ is. latest_put other is (latest_at old other)) (sym e)
          ∙ c.loop-item.invariant.put other;
    }
