-- What a reception passes on unread, in the order in which it was found.
use Rattle.std.specs.Prelude.{ℕ, ◌==◌, if◌then◌else◌, List, [], ◌∷◌, ◌++◌, map, flat_map, Option}
use Rattle.std.specs.Prelude.{Some, None, Result, Ok, Err, length}
use Rattle.dlac_text.specs.Reports.{reports_of}
use Rattle.uplink_frame.specs.declared.station.StationId.{StationId}
use Rattle.uplink_frame.specs.UplinkFrame.{InformationFrame, information_frames}
use Rattle.apdu_core.specs.Apdu.{product_of}
use Rattle.life_table.specs.LifeTable.{LifeTable}
use Rattle.radar_core.specs.Radar.{Block, radar_blocks}
use Rattle.radar_core.specs.declared.fault.RadarFault.{RadarFault}
use Rattle.radar_core.specs.declared.fault.RadarFault.TheVariants as faults
use Rattle.text_reports.specs.TextKey.{TextKey, KeyFault, few_words, unlisted, text_key}
use Rattle.segment_core.specs.Arrival.{Arrival, Whole, completes, whole_with}
use Rattle.segment_core.specs.declared.arrived.Taken.{Taken}
use Rattle.segment_core.specs.declared.arrived.Taken.TheVariants as taken
use Rattle.life_table.specs.Products.{text_product}
use Rattle.receiver_core.specs.Reception.{Reception, arrival_in, arrivals, station_heard}
use Rattle.receiver_core.specs.Steps.{arrived_with}
use Rattle.receiver_core.specs.declared.unread.UnreadReason.{UnreadReason}
use Rattle.receiver_core.specs.declared.unread.UnreadReason.TheVariants.{Bitmap, High, RadarShort}
use Rattle.receiver_core.specs.declared.unread.UnreadReason.TheVariants.{Runs, Scale, Stale}
use Rattle.receiver_core.specs.declared.unread.UnreadReason.TheVariants.{Unlisted, Words}

-- a part that is passed on: why, the type of its information frame, its product or 0, and the
-- length of its body
pub record UnreadPart : Type 0 where
  pub reason : UnreadReason
  pub kind : ℕ
  pub product : ℕ
  pub size : ℕ

abbrev pub part_in : InformationFrame → UnreadReason → UnreadPart
part_in frame reason = record {
  reason = reason;
  kind = frame.kind;
  product = if frame.kind == 0 then product_of frame.body else 0;
  size = length frame.body;
}

-- a report without a key
abbrev pub report_reasons : Result TextKey KeyFault → List UnreadReason
report_reasons (Ok key) = []
report_reasons (Err few_words) = Words ∷ []
report_reasons (Err unlisted) = Unlisted ∷ []

-- a payload that is no radar record
abbrev pub radar_reason : RadarFault → UnreadReason
radar_reason faults.Short = RadarShort
radar_reason faults.BadScale = Scale
radar_reason faults.RunsNot128 = Runs
radar_reason faults.HighEmpty = High
radar_reason faults.BadBitmap = Bitmap

abbrev pub radar_reasons : Result (List Block) RadarFault → List UnreadReason
radar_reasons (Ok blocks) = []
radar_reasons (Err fault) = radar_reason fault ∷ []

-- what is passed on of a whole payload: each report without a key, or the payload that is no radar
-- record
abbrev pub whole_reasons : LifeTable → Option Whole → List UnreadReason
whole_reasons table None = []
whole_reasons table (Some whole) = if whole.product == text_product
    then flat_map (λ text. report_reasons (text_key table text)) (reports_of whole.payload)
    else radar_reasons (radar_blocks whole.product whole.payload)

-- why an arrival is passed on unread, or what is in the payload that the answer to it makes whole
abbrev pub taken_reasons : LifeTable → Arrival → Taken → List UnreadReason
taken_reasons table a (taken.Whole payload) = whole_reasons table (Some (whole_with a payload))
taken_reasons table a taken.Waits = []
taken_reasons table a taken.Again = []
taken_reasons table a taken.Stale = Stale ∷ []

-- an information frame that does not arrive, or what is passed on of the payload that it makes
-- whole
abbrev pub frame_reasons : LifeTable → List Arrival → Result Arrival UnreadReason
    → List UnreadReason
frame_reasons table before (Err reason) = reason ∷ []
frame_reasons table before (Ok a) = whole_reasons table (completes before a a.segmentation)

-- of the information frames of a station, after the arrivals before them
abbrev pub unread_after : LifeTable → StationId → ℕ → List Arrival → List InformationFrame
    → List UnreadPart
unread_after table station moment before [] = []
unread_after table station moment before (frame ∷ more) =
    let arrived = arrival_in table station moment frame in
    map (part_in frame) (frame_reasons table before arrived)
    ++ unread_after table station moment (arrived_with before arrived) more

-- the unread parts of a reception after those before it
abbrev pub unread_parts : LifeTable → List Reception → Reception → List UnreadPart
unread_parts table past heard =
    unread_after table (station_heard heard) heard.moment (arrivals table past)
    (information_frames heard.payload)
