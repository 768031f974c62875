use Rattle.std.proofs.Common.{◌≡◌, flat_map, take, length}
use Rattle.life_table.specs.LifeTable.{radar}
use Rattle.ground_core.specs.Update.{block_key, group_weather}
use Rattle.ground_core.specs.Putting.{AreItemsFrom, AreWhole, values_of}
use Rattle.ground_core.proofs.radar_items.group_items.Given as goal

abbrev pub invariant-loop-place : goal.invariant-loop-place
invariant-loop-place l = record {
  items : AreItemsFrom l.first (flat_map (group_weather l.validity.version (radar l.area.product l.validity.life l.validity.form)
      (block_key l.area.product l.area.scale l.area.south)) (take l.place l.groups)) (values_of l.items.items);
  count : length (values_of l.items.items) ≡ l.place;
  whole : AreWhole (values_of l.items.items);
}
