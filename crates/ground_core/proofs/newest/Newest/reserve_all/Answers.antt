use Rattle.std.proofs.Common.{◌<◌, [], ◌∷◌, ◌++◌, length, take, sym, subst, ◌∙◌, arith}
use Rattle.list_members.specs.Each.{AllByRecursion-front, AllByRecursion-back}
use Rattle.ground_core.specs.Putting.{IsUncut, AreWhole, values_of}
use Rattle.ground_core.specs.Rooms.{IsOfBlocks, HaveRoomFor, HaveRoomForAll}
use Rattle.ground_core.specs.declared.item.SentItem.{SentItem}
use Rattle.ground_core.proofs.RoomLemmas.{rooms_stay, rooms_behind, values_more}
use Rattle.ground_core.proofs.newest.Newest.reserve_all.Goals as goal

pub loop-item-preserved : goal.loop-item-preserved
loop-item-preserved c =
    let items = c.args.items.now in
    let k = c.loop-item.item-index in
    let d = c.item-item.result in
    let below : k < length items = omega (arith, c.loop-item-test.true) in
    let e = values_more items k d below c.item-item.is in
    let front = values_of (take k items) in
    record {
      same = λ other. c.reserve.ensures.same other ∙ c.loop-item.invariant.same other;
      room = λ w. (
          let whole : AreWhole (front ++ d.value ∷ []) = subst AreWhole e w in
          let of_blocks = (AllByRecursion-back IsUncut front (d.value ∷ []) whole).0.of_blocks in
          let room : HaveRoomFor c.reserve.new.self d.value.keys =
          subst (λ (i : SentItem). IsOfBlocks i.keys → HaveRoomFor c.reserve.new.self i.keys) c.deref.ensures c.in-Ok.ensures.room of_blocks
          in
          subst (HaveRoomForAll c.reserve.new.self) (sym e)
          (rooms_behind c.reserve.new.self front d.value
          (rooms_stay c.loop-item.self c.reserve.new.self c.reserve.ensures.stays front (c.loop-item.invariant.room (AllByRecursion-front IsUncut front (d.value ∷ []) whole))) room));
    }
