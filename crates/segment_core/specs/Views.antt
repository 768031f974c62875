-- What the types of the code stand for.
use Rattle.segment_core.specs.Arrival.{Arrival}
use Rattle.segment_core.specs.declared.arrived.Arrived.{Arrived}

abbrev pub arrival_view : Arrived → Arrival
arrival_view a = record {
  station = a.station;
  product = a.product;
  version = a.version;
  segmentation = a.seg;
  payload = a.payload.now;
}
