-- What the information frames of a reception bring one after another.
use Rattle.std.specs.Prelude.{ℕ, if◌then◌else◌, List, [], ◌∷◌, ◌++◌, Option, Some, None}
use Rattle.std.specs.Prelude.{option_to_list, Result, Ok, Err}
use Rattle.std.specs.Result.{result_ok}
use Rattle.uplink_frame.specs.declared.station.StationId.{StationId}
use Rattle.uplink_frame.specs.UplinkFrame.{InformationFrame}
use Rattle.life_table.specs.LifeTable.{LifeTable}
use Rattle.segment_core.specs.Arrival.{Arrival, Whole, completes}
use Rattle.segment_core.specs.Store.{is_in_life}
use Rattle.segment_core.specs.Views.{arrival_view}
use Rattle.segment_core.specs.declared.arrived.Arrived.{Arrived}
use Rattle.segment_core.specs.declared.arrived.Longest.{Longest}
use Rattle.picture_core.specs.Entry.{Entry}
use Rattle.receiver_core.specs.Reception.{arrival_in, whole_entries}
use Rattle.receiver_core.specs.declared.unread.UnreadReason.{UnreadReason}
use Rattle.receiver_core.specs.declared.unread.UnreadReason.TheVariants.{Stale}

-- what is read counts where the longest life of its product has not passed
abbrev pub arrival_in_time : Longest → ℕ → Result Arrived UnreadReason → Result Arrival UnreadReason
arrival_in_time lives moment (Err reason) = Err reason
arrival_in_time lives moment (Ok a) =
    if is_in_life lives moment a.product a.version then Ok (arrival_view a) else Err Stale

-- the entries of the payload that a frame makes whole
abbrev pub entries_of_whole : LifeTable → Option Whole → List Entry
entries_of_whole table None = []
entries_of_whole table (Some whole) = whole_entries table whole

abbrev pub frame_entries : LifeTable → List Arrival → Result Arrival UnreadReason → List Entry
frame_entries table before (Err reason) = []
frame_entries table before (Ok a) = entries_of_whole table (completes before a a.segmentation)

-- what has arrived with this frame
abbrev pub arrived_with : List Arrival → Result Arrival UnreadReason → List Arrival
arrived_with before arrived = before ++ option_to_list (result_ok arrived)

-- of the information frames of a station, after the arrivals before them
abbrev pub entries_after : LifeTable → StationId → ℕ → List Arrival → List InformationFrame
    → List Entry
entries_after table station moment before [] = []
entries_after table station moment before (frame ∷ more) =
    let arrived = arrival_in table station moment frame in
    frame_entries table before arrived
    ++ entries_after table station moment (arrived_with before arrived) more

abbrev pub arrivals_after : LifeTable → StationId → ℕ → List Arrival → List InformationFrame
    → List Arrival
arrivals_after table station moment before [] = before
arrivals_after table station moment before (frame ∷ more) =
    arrivals_after table station moment
    (arrived_with before (arrival_in table station moment frame)) more
