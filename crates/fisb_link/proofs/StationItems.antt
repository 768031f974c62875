-- The items of a broadcast, known as those of its stations' histories.
use Rattle.std.proofs.Common.{◌≡◌, List, sym, subst}
use Rattle.life_table.specs.LifeTable.{LifeTable}
use Rattle.life_table.specs.Rules.{IsTable}
use Rattle.uplink_frame.specs.declared.station.StationId.{StationId}
use Rattle.list_members.specs.Membership.{IsIn}
use Rattle.ground_core.specs.Item.{Item}
use Rattle.ground_core.specs.History.{items}
use Rattle.ground_core.specs.Broadcast.{StationEvent, IsBroadcast, history_of, frames, all_items}
use Rattle.ground_core.specs.Sound.{AreItems}
use Rattle.fisb_link.proofs.Layers.{Layers, AreAll, Setting}

-- what is known of the items of a station is known of all of them
pub all-are : Layers → (table : LifeTable) (broadcast : List StationEvent) → IsTable table
    → IsBroadcast table broadcast
    → AreAll table (all_items table broadcast)
all-are layers table broadcast is_table is =
    let of_stations = layers.items table broadcast is in
    let own : StationId → List Item =
    λ station. items table station (history_of station broadcast) in
    let are : (station : StationId) → AreItems table station (own station) = λ station.
    layers.histories table station (history_of station broadcast) is_table
    (of_stations.histories station) in
    let of = of_stations.of_station in
    let near : (i j : Item) → IsIn j (all_items table broadcast) → i.station ≡ j.station
    → IsIn j (own i.station) =
    λ i j there e. subst (λ (station : StationId). IsIn j (own station)) (sym e) (of j there) in
    record {
      sound = λ i h. (are i.station).sound i (of i h);
      serials = λ i j h k e. (are i.station).serials i j (of i h) (near i j k e);
      keys = λ i j entry h k e. (are i.station).keys i j entry (of i h) (near i j k e);
      numbered = λ i h. (are i.station).numbered i (of i h);
      files = λ i j h k e. (are i.station).files i j (of i h) (near i j k e);
    }

pub setting-of : Layers → (table : LifeTable) (broadcast : List StationEvent) → IsTable table
    → IsBroadcast table broadcast
    → Setting table (all_items table broadcast) (frames table broadcast)
setting-of layers table broadcast is_table is = record {
  layers = layers;
  is_table = is_table;
  items_are = all-are layers table broadcast is_table is;
  frames_are = λ frame h. layers.frames table broadcast frame is_table is h;
}
