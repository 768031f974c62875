-- The history of one station's ground, and the items that it was given. A history has its newest
-- event first; what is made of it has its oldest member first.
use Rattle.std.specs.Prelude.{ℕ, ◌+◌, Bool, false, not, ◌&&◌, ◌==◌, nat_lt, if◌then◌else◌, List, []}
use Rattle.std.specs.Prelude.{◌∷◌, ◌++◌, length, filter, find, Option, Some, None}
use Rattle.std.specs.List.{list_any, range_with_len}
use Rattle.apdu_core.specs.Apdu.{file_numbers}
use Rattle.life_table.specs.LifeTable.{LifeTable, longest_life}
use Rattle.uplink_frame.specs.declared.station.StationId.{StationId}
use Rattle.ground_core.specs.Item.{Weather, Item, is_segmented}
use Rattle.ground_core.specs.Update.{Update, weather_of}

-- an update that was accepted, or a fill of the frame of a slot
pub data Event : Type 0 where
  accepted : (moment : ℕ) (update : Update) → Event
  fill : (moment slot : ℕ) → Event

abbrev pub event_moment : Event → ℕ
event_moment (accepted moment update) = moment
event_moment (fill moment slot) = moment

-- An item is kept until its version and the longest life of its product have passed. A rival is
-- kept, is sent in segments, and is of the same product and version.
abbrev pub is_kept : LifeTable → ℕ → Weather → Bool
is_kept table moment w = nat_lt moment (w.version + longest_life table w.product)

abbrev pub is_rival : LifeTable → ℕ → Weather → Item → Bool
is_rival table moment w other = is_segmented other.weather && is_kept table moment other.weather
    && (other.weather.product == w.product) && (other.weather.version == w.version)

abbrev pub has_number : ℕ → Option ℕ → Bool
has_number n None = false
has_number n (Some m) = n == m

-- the least number that no rival has, where there is one
unfoldable pub free_number : List Item → Option ℕ
free_number rivals = find (λ n. not (list_any (λ other. has_number n other.number) rivals))
    (range_with_len 0 file_numbers)

abbrev pub number_for : LifeTable → ℕ → List Item → Weather → Option ℕ
number_for table moment before w = free_number (filter (is_rival table moment w) before)

abbrev pub item_of : LifeTable → StationId → ℕ → List Item → Weather → Item
item_of table station moment before w = record {
  station = station;
  serial = length before;
  number = if is_segmented w then number_for table moment before w else None;
  weather = w;
}

-- the items that further weather makes after those before it
abbrev pub items_made : LifeTable → StationId → ℕ → List Item → List Weather → List Item
items_made table station moment before [] = []
items_made table station moment before (w ∷ more) =
    let item = item_of table station moment before w in
    item ∷ items_made table station moment (before ++ item ∷ []) more

-- the items that an event adds to those before it
abbrev pub new_items : LifeTable → StationId → List Item → Event → List Item
new_items table station before (accepted moment update) =
    items_made table station moment before (weather_of table update)
new_items table station before (fill moment slot) = []

abbrev pub items : LifeTable → StationId → List Event → List Item
items table station [] = []
items table station (event ∷ past) =
    let before = items table station past in before ++ new_items table station before event
