-- What a receiver learns from the payloads that it hears (RTCA DO-358). Receptions have the newest
-- first; arrivals, whole payloads and entries have the oldest first.
use Rattle.std.specs.Prelude.{ℕ, ◌+◌, Bool, false, ◌==◌, nat_lt, if◌then◌else◌, List, [], ◌∷◌, ◌++◌}
use Rattle.std.specs.Prelude.{flat_map, filter_map, Option, Some, None, Result, Ok, Err}
use Rattle.std.specs.Result.{result_ok}
use Rattle.fisb_time.specs.Naming.{named_moment}
use Rattle.uplink_frame.specs.declared.station.StationId.{StationId}
use Rattle.uplink_frame.specs.Station.{station_of}
use Rattle.uplink_frame.specs.UplinkFrame.{InformationFrame, information_frames, header_in}
use Rattle.apdu_core.specs.declared.apdu.Seg.{Seg}
use Rattle.apdu_core.specs.declared.fault.ApduFault.{ApduFault}
use Rattle.apdu_core.specs.declared.fault.ApduFault.TheVariants as faults
use Rattle.apdu_core.specs.Apdu.{Apdu, apdu_of}
use Rattle.life_table.specs.Products.{is_read_product}
use Rattle.life_table.specs.LifeTable.{LifeTable, longest}
use Rattle.segment_core.specs.File.{most_segments}
use Rattle.segment_core.specs.Arrival.{Arrival, Whole, whole_payloads}
use Rattle.picture_core.specs.Contents.{payload_entries}
use Rattle.picture_core.specs.Entry.{Entry}
use Rattle.picture_core.specs.Picture.{picture}
use Rattle.receiver_core.specs.declared.unread.UnreadReason.{UnreadReason}
use Rattle.receiver_core.specs.declared.unread.UnreadReason.TheVariants.{Kind, Short, Flagged}
use Rattle.receiver_core.specs.declared.unread.UnreadReason.TheVariants.{Segment, Product, NoRow}
use Rattle.receiver_core.specs.declared.unread.UnreadReason.TheVariants.{Files, Time, Stale}

-- a payload, and the moment at which it was heard
pub record Reception : Type 0 where
  pub moment : ℕ
  pub payload : List ℕ

abbrev pub fault_reason : ApduFault → UnreadReason
fault_reason faults.Short = Short
fault_reason faults.Flagged = Flagged
fault_reason faults.BadSegment = Segment

abbrev pub is_large : Option Seg → Bool
is_large None = false
is_large (Some s) = nat_lt most_segments s.count

-- its time names the version; it counts before the longest life of its product has passed
abbrev pub arrival_with_version : StationId → ℕ → Apdu → ℕ → Option ℕ → Result Arrival UnreadReason
arrival_with_version station received a life None = Err Time
arrival_with_version station received a life (Some version) = if nat_lt received (version + life)
    then Ok (record {
      station = station;
      product = a.product;
      version = version;
      segmentation = a.segmentation;
      payload = a.payload;
    })
    else Err Stale

abbrev pub arrival_with_row : StationId → ℕ → Apdu → Option ℕ → Result Arrival UnreadReason
arrival_with_row station received a None = Err NoRow
arrival_with_row station received a (Some life) = if is_large a.segmentation then Err Files
    else arrival_with_version station received a life (named_moment a.form a.time received)

abbrev pub arrival_of_apdu : LifeTable → StationId → ℕ → Result Apdu ApduFault
    → Result Arrival UnreadReason
arrival_of_apdu table station received (Err fault) = Err (fault_reason fault)
arrival_of_apdu table station received (Ok a) = if is_read_product a.product
    then arrival_with_row station received a (longest table a.product)
    else Err Product

-- the arrival that an information frame is, or why it is none
abbrev pub arrival_in : LifeTable → StationId → ℕ → InformationFrame → Result Arrival UnreadReason
arrival_in table station received frame = if frame.kind == 0
    then arrival_of_apdu table station received (apdu_of frame.body)
    else Err Kind

-- the station that its header names
abbrev pub station_heard : Reception → StationId
station_heard heard = station_of (header_in heard.payload)

abbrev pub arrivals_in : LifeTable → Reception → List Arrival
arrivals_in table heard =
    filter_map (λ frame. result_ok (arrival_in table (station_heard heard) heard.moment frame))
    (information_frames heard.payload)

abbrev pub arrivals : LifeTable → List Reception → List Arrival
arrivals table [] = []
arrivals table (heard ∷ past) = arrivals table past ++ arrivals_in table heard

abbrev pub whole_entries : LifeTable → Whole → List Entry
whole_entries table whole = payload_entries table whole.product whole.version whole.payload

-- what a list of receptions brought, and the picture of it
abbrev pub contents : LifeTable → List Reception → List Entry
contents table heard = flat_map (whole_entries table) (whole_payloads (arrivals table heard))

abbrev pub received_picture : LifeTable → List Reception → ℕ → List Entry
received_picture table heard moment = picture (contents table heard) moment
