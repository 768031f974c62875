use Rattle.std.proofs.Common.{◌≡◌, ◌+◌, ◌<◌, [], ◌∷◌, ◌++◌, length, sym, ap, subst, ◌∙◌, arith, length-append}
use Rattle.std.proofs.lemmas.List.{map-append}
use Rattle.life_table.specs.LifeTable.{RadarRow, radar}
use Rattle.list_members.specs.Each.{AllByRecursion-append}
use Rattle.ground_core.specs.Update.{group_weather}
use Rattle.ground_core.specs.Putting.{AreItemsFrom, IsUncut, AreWhole, values_of}
use Rattle.ground_core.specs.declared.area.Area.{Area}
use Rattle.ground_core.specs.declared.item.SentItem.{SentItem}
use Rattle.ground_core.proofs.Areas.{key_in_area}
use Rattle.ground_core.proofs.GroupItems.{more_groups}
use Rattle.ground_core.proofs.SentItems.{items_behind}
use Rattle.ground_core.proofs.radar_items.group_items.Goals as goal

pub loop-place-preserved : goal.loop-place-preserved
loop-place-preserved c =
    let area : Area = c.args.area in
    let v = c.args.validity.now in
    let row : RadarRow = radar area.product v.life v.form in
    let f = group_weather v.version row (key_in_area area) in
    let groups = c.args.groups.now in
    let k = c.loop-place.place in
    let below : k < length groups = omega (arith, c.loop-place-test.true, c.len-place-end.ensures) in
    let item : SentItem = c.in_ok-item.item in
    let before = values_of c.loop-place.items.items in
    let same : c.in_ok-new.field-0.value ≡ item = c.in_ok-new.ensures.ok in
    let values : values_of c.push.new.self.items ≡ before ++ item ∷ [] =
    ap values_of c.in_ok-push.ensures.items ∙ map-append (λ i. i.value) c.loop-place.items.items (c.in_ok-new.field-0 ∷ []) ∙ ap (λ i. before ++ i ∷ []) same
    in
    let serial : c.args.first + k ≡ c.args.first + length before = ap (λ n. c.args.first + n) (sym c.loop-place.invariant.count) in
    let size = length-append before (item ∷ []) in
    record {
      items = subst (AreItemsFrom c.args.first _) (sym values)
          (subst (λ ws. AreItemsFrom c.args.first ws (before ++ item ∷ [])) (sym (more_groups f groups k c.at.result.now c.at.ensures below))
          (items_behind c.args.first _ (f c.at.result.now) before (item ∷ []) c.loop-place.invariant.items
          (subst (λ n. AreItemsFrom n (f c.at.result.now) (item ∷ [])) serial c.in_ok-item.ensures.item)));
      count = ap length values ∙ size ∙ ap (λ n. n + 1) c.loop-place.invariant.count;
      whole = subst AreWhole (sym values) (AllByRecursion-append IsUncut before (item ∷ []) c.loop-place.invariant.whole (c.in_ok-item.ensures.whole, tt));
    }
