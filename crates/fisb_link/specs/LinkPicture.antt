-- The picture that a link promises, told by updates, fills and hearings alone: an item counts once
-- each of its segments was in a frame that was heard. It depends on no byte of a frame, on no field
-- of time and on no file number.
use Rattle.std.specs.Prelude.{ℕ, Bool, not, ◌&&◌, List, [], ◌∷◌, ◌++◌, filter, flat_map, Option}
use Rattle.std.specs.Prelude.{Some, None, slice_get}
use Rattle.std.specs.List.{list_any, list_all}
use Rattle.life_table.specs.LifeTable.{LifeTable}
use Rattle.picture_core.specs.Entry.{Entry}
use Rattle.picture_core.specs.Picture.{picture}
use Rattle.ground_core.specs.Item.{Item, Segment, segments_of, same_segment}
use Rattle.ground_core.specs.Airing.{Frame}
use Rattle.ground_core.specs.Broadcast.{StationEvent, frames, all_items}
use Rattle.fisb_link.specs.Hearing.{Hearing}

abbrev pub segments_in : Option Frame → List Segment
segments_in None = []
segments_in (Some frame) = frame.segments

abbrev pub heard_segments : List Frame → List Hearing → List Segment
heard_segments sent heard = flat_map (λ h. segments_in (slice_get sent h.frame)) heard

-- each segment of the item was heard
abbrev pub was_heard : List Frame → List Hearing → Segment → Bool
was_heard sent heard s = list_any (same_segment s) (heard_segments sent heard)

abbrev pub is_whole : List Frame → List Hearing → Item → Bool
is_whole sent heard item = list_all (was_heard sent heard) (segments_of item)

-- the item is whole with this hearing, and was not before
abbrev pub becomes_whole : List Frame → Hearing → List Hearing → Item → Bool
becomes_whole sent h past item = is_whole sent (h ∷ past) item && not (is_whole sent past item)

-- the entries of the items in the order in which they became whole
abbrev pub link_entries : List Item → List Frame → List Hearing → List Entry
link_entries all sent [] = []
link_entries all sent (h ∷ past) =
    link_entries all sent past
    ++ flat_map (λ item. item.weather.entries) (filter (becomes_whole sent h past) all)

-- of each key the newest version, of equal versions the one that became whole first
abbrev pub link_picture : LifeTable → List StationEvent → List Hearing → ℕ → List Entry
link_picture table broadcast heard moment =
    picture (link_entries (all_items table broadcast) (frames table broadcast) heard) moment
