-- Laws of what a receiver keeps after one more reception.
use Rattle.std.specs.Prelude.{◌≡◌, ℕ, ◌≤◌, List, ◌∷◌}
use Rattle.life_table.specs.LifeTable.{LifeTable}
use Rattle.uplink_frame.specs.UplinkFrame.{information_frames}
use Rattle.segment_core.specs.Arrival.{Arrival}
use Rattle.picture_core.specs.Entry.{Entry}
use Rattle.picture_core.specs.Kept.{IsStore, live_entries, put_all}
use Rattle.receiver_core.specs.Reception.{Reception, arrivals, contents, station_heard}
use Rattle.receiver_core.specs.Steps.{arrivals_after, entries_after}

-- what a reception brings, by the arrivals before it
abbrev pub entries_heard : LifeTable → List Reception → Reception → List Entry
entries_heard table past heard =
    entries_after table (station_heard heard) heard.moment (arrivals table past)
    (information_frames heard.payload)

abbrev pub arrivals_heard : LifeTable → List Reception → Reception → List Arrival
arrivals_heard table past heard =
    arrivals_after table (station_heard heard) heard.moment (arrivals table past)
    (information_frames heard.payload)

-- the frames of a reception one after another bring what the whole reception does
abbrev pub FramesAreReception : Type 0
FramesAreReception = (table : LifeTable) (past : List Reception) (heard : Reception)
    → arrivals_heard table past heard ≡ arrivals table (heard ∷ past)

-- what is kept of some receptions, with the entries of one more, and without what has ended then,
-- is kept of them all
abbrev pub KeepsReception : Type 0
KeepsReception =
    (table : LifeTable) (past : List Reception) (heard : Reception) (last : ℕ) (kept : List Entry)
    → last ≤ heard.moment → IsStore last (contents table past) kept
    → IsStore heard.moment (contents table (heard ∷ past))
    (live_entries heard.moment (put_all (entries_heard table past heard) kept))
