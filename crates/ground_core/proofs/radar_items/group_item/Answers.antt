use Rattle.std.proofs.Common.{◌∷◌, map, drop, get_or, refl, sym, ap, ◌∙◌, arith}
use Rattle.life_table.specs.LifeTable.{RadarRow, radar}
use Rattle.picture_core.specs.Key.{radar_block}
use Rattle.radar_core.specs.Blanks.{blank_record}
use Rattle.radar_core.specs.Radar.{blank_blocks}
use Rattle.radar_core.specs.declared.key.BlockKey.{BlockKey}
use Rattle.list_members.specs.Places.{take-rest}
use Rattle.ground_core.specs.Item.{Weather, is_segmented}
use Rattle.ground_core.specs.Update.{radar_weather}
use Rattle.ground_core.specs.Views.{area_keys, keys_in}
use Rattle.ground_core.specs.declared.area.Area.{Area}
use Rattle.ground_core.proofs.Areas.{key_in_area}
use Rattle.ground_core.proofs.GroupItems.{group_keys, group_parts, one_of_group, zero_both}
use Rattle.ground_core.proofs.radar_items.group_item.Goals as goal

pub returns-clause-item : goal.returns-clause-item
returns-clause-item c =
    let area : Area = c.args.area in
    let group = c.args.group.now in
    let v = c.args.validity.now in
    let row : RadarRow = radar area.product v.life v.form in
    let n = get_or group 0 0 in
    let further = drop 1 group in
    let parts = group_parts group c.in-len1-up.len_at_least in
    let w : Weather = radar_weather area.product v.version row (blank_blocks (key_in_area area n) (n ∷ further)) (blank_record (key_in_area area n) further) in
    one_of_group v.version row area c.args.serial group n further w c.whole_item.result parts refl (record {
      serial_is = c.whole_item.ensures.serial;
      keys = ap keys_in c.whole_item.ensures.keys
          ∙ ap (λ (a : Area). map radar_block (area_keys a c.in_ok-blocks.blocks.numbers.items)) c.in_ok-blocks.ensures.area
          ∙ ap (λ ns. map radar_block (area_keys area ns)) (c.in_ok-blocks.ensures.numbers ∙ parts)
          ∙ sym (group_keys area v.version v.life n (n ∷ further));
      version_is = c.whole_item.ensures.version;
      until = c.whole_item.ensures.until;
      product = c.whole_item.ensures.product;
      form = c.whole_item.ensures.form;
      payload = c.whole_item.ensures.payload ∙ c.in_ok-payload.ensures.record ∙ ap (blank_record c.key_of.result) (take-rest 1 group) ∙ ap (λ (key : BlockKey). blank_record key further) c.key_of.ensures;
      few = λ t. omega arith;
      file = c.whole_item.ensures.whole ∙ zero_both (is_segmented w);
    })
