-- What one more reception brings.
use Rattle.std.proofs.Common.{◌≡◌, ℕ, List, [], ◌∷◌, ◌++◌, flat_map, filter_map, Option, Some, None, Result, Ok, Err, refl, sym, ap, subst, ◌∙◌}
use Rattle.std.specs.List.{cons_option}
use Rattle.std.specs.Result.{result_ok}
use Rattle.std.proofs.lemmas.List.{append_assoc, append-nil}
use Rattle.std.proofs.lemmas.Grind.{flat_map-append}
use Rattle.life_table.specs.LifeTable.{LifeTable}
use Rattle.uplink_frame.specs.declared.station.StationId.{StationId}
use Rattle.uplink_frame.specs.UplinkFrame.{InformationFrame, information_frames}
use Rattle.segment_core.specs.Arrival.{Arrival, Whole, whole_payloads, completed_after, completes}
use Rattle.segment_core.specs.Joining.{CompletedGrows}
use Rattle.picture_core.specs.Contents.{life_of, payload_entries}
use Rattle.picture_core.specs.Kept.{HaveLife}
use Rattle.picture_core.specs.Lives.{HaveLife-flat_map}
use Rattle.receiver_core.specs.Laws.{entries_heard}
use Rattle.receiver_core.specs.Reception.{Reception, arrival_in, arrivals, arrivals_in, contents, station_heard, whole_entries}
use Rattle.receiver_core.specs.Steps.{arrivals_after, arrived_with, entries_after, entries_of_whole, frame_entries}
use Rattle.receiver_core.specs.declared.unread.UnreadReason.{UnreadReason}

arrived_step : (before : List Arrival) (read : Result Arrival UnreadReason) (more : List Arrival)
    → arrived_with before read ++ more ≡ before ++ cons_option (result_ok read) more
arrived_step before (Err reason) more = ap (λ bs. bs ++ more) (append-nil before)
arrived_step before (Ok a) more = append_assoc before (a ∷ []) more

-- the arrivals that frames are
arrivals_of_frames : LifeTable → StationId → ℕ → List InformationFrame → List Arrival
arrivals_of_frames table station moment frames = filter_map (λ frame. result_ok (arrival_in table station moment frame)) frames

arrivals_all : (table : LifeTable) (station : StationId) (moment : ℕ) (before : List Arrival) (frames : List InformationFrame)
    → arrivals_after table station moment before frames ≡ before ++ arrivals_of_frames table station moment frames
unfolding arrivals_of_frames
arrivals_all table station moment before [] = sym (append-nil before)
arrivals_all table station moment before (frame ∷ more) =
    let read : Result Arrival UnreadReason = arrival_in table station moment frame in
    arrivals_all table station moment (arrived_with before read) more
    ∙ arrived_step before read (arrivals_of_frames table station moment more)

entries_of_one : (table : LifeTable) (whole : Option Whole) → flat_map (whole_entries table)
    (cons_option whole []) ≡ entries_of_whole table whole
entries_of_one table None = refl
entries_of_one table (Some whole) = append-nil (whole_entries table whole)

entries_step : (table : LifeTable) (before : List Arrival) (read : Result Arrival UnreadReason) (more : List Arrival)
    → frame_entries table before read ++ flat_map (whole_entries table) (completed_after (arrived_with before read) more)
    ≡ flat_map (whole_entries table) (completed_after before (cons_option (result_ok read) more))
entries_step table before (Err reason) more =
    ap (λ bs. flat_map (whole_entries table) (completed_after bs more)) (append-nil before)
entries_step table before (Ok a) more =
    let whole = completes before a a.segmentation in
    let later = completed_after (before ++ a ∷ []) more in
    ap (λ es. es ++ flat_map (whole_entries table) later) (sym (entries_of_one table whole))
    ∙ sym (flat_map-append (whole_entries table) (cons_option whole []) later)

entries_all : (table : LifeTable) (station : StationId) (moment : ℕ) (before : List Arrival) (frames : List InformationFrame)
    → entries_after table station moment before frames
    ≡ flat_map (whole_entries table) (completed_after before (arrivals_of_frames table station moment frames))
unfolding arrivals_of_frames
entries_all table station moment before [] = refl
entries_all table station moment before (frame ∷ more) =
    let read : Result Arrival UnreadReason = arrival_in table station moment frame in
    ap (λ es. frame_entries table before read ++ es) (entries_all table station moment (arrived_with before read) more)
    ∙ entries_step table before read (arrivals_of_frames table station moment more)

pub arrivals_added : (table : LifeTable) (past : List Reception) (heard : Reception)
    → arrivals_after table (station_heard heard) heard.moment (arrivals table past) (information_frames heard.payload)
    ≡ arrivals table (heard ∷ past)
unfolding arrivals_of_frames
arrivals_added table past heard =
    arrivals_all table (station_heard heard) heard.moment (arrivals table past) (information_frames heard.payload)

pub contents_added : CompletedGrows → (table : LifeTable) (past : List Reception) (heard : Reception)
    → contents table past ++ entries_heard table past heard ≡ contents table (heard ∷ past)
unfolding arrivals_of_frames
contents_added grows table past heard =
    ap (λ es. contents table past ++ es)
    (entries_all table (station_heard heard) heard.moment (arrivals table past) (information_frames heard.payload))
    ∙ sym (flat_map-append (whole_entries table) (whole_payloads (arrivals table past))
    (completed_after (arrivals table past) (arrivals_in table heard)))
    ∙ ap (flat_map (whole_entries table)) (sym (grows (arrivals table past) (arrivals_in table heard)))

-- what is known of the entries of payloads
abbrev pub PayloadsLive : Type 0
PayloadsLive = (table : LifeTable) (product version : ℕ) (payload : List ℕ) → HaveLife (life_of table)
    (payload_entries table product version payload)

lives_whole : PayloadsLive → (table : LifeTable) (wholes : List Whole) → HaveLife (life_of table)
    (flat_map (whole_entries table) wholes)
lives_whole payloads table wholes =
    HaveLife-flat_map (life_of table) (whole_entries table) wholes
    (λ whole. payloads table whole.product whole.version whole.payload)

pub lives_contents : PayloadsLive → (table : LifeTable) (past : List Reception) → HaveLife (life_of table) (contents table past)
lives_contents payloads table past = lives_whole payloads table (whole_payloads (arrivals table past))

pub lives_heard : PayloadsLive → (table : LifeTable) (past : List Reception) (heard : Reception)
    → HaveLife (life_of table) (entries_heard table past heard)
lives_heard payloads table past heard =
    subst (HaveLife (life_of table))
    (sym (entries_all table (station_heard heard) heard.moment (arrivals table past) (information_frames heard.payload)))
    (lives_whole payloads table (completed_after (arrivals table past)
    (arrivals_of_frames table (station_heard heard) heard.moment (information_frames heard.payload))))
