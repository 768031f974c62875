use Rattle.std.proofs.Common.{◌≡◌, ◌<◌, length, take, get_or, ap, subst, ◌∙◌, arith}
use Rattle.std.proofs.lemmas.List.{take_more}
use Rattle.list_members.specs.Membership.{IsIn}
use Rattle.ground_core.specs.Views.{area_keys}
use Rattle.ground_core.specs.Rooms.{HasRoom}
use Rattle.ground_core.proofs.Areas.{key_in_area, room_more}
use Rattle.ground_core.proofs.newest_blocks.NewestBlocks.reserve.Goals as goal

pub loop-number-preserved : goal.loop-number-preserved
loop-number-preserved c =
    let area = c.args.blocks.now.area in
    let items = c.args.blocks.now.numbers.items in
    let k = c.loop-number.number-index in
    let below : k < length items = omega (arith, c.loop-number-test.true, ap length c.deref-number-items.ensures.value) in
    let e : c.key_of.result ≡ key_in_area area (get_or items k 0) = c.key_of.ensures ∙ ap (λ xs. key_in_area area (get_or xs k 0)) c.deref-number-items.ensures.value in
    record {
      same = λ other. c.make_room.ensures.same other ∙ c.loop-number.invariant.same other;
      stays = λ other h. c.make_room.ensures.stays other (c.loop-number.invariant.stays other h);
      room = λ key i. room_more (HasRoom c.make_room.new.self) area (take k items) (get_or items k 0)
          (λ key j. c.make_room.ensures.stays key (c.loop-number.invariant.room key j))
          (subst (HasRoom c.make_room.new.self) e c.in-Ok.ensures.room) key (subst (λ xs. IsIn key (area_keys area xs)) (take_more items k 0 below) i);
    }
