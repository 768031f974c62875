-- Which histories an object stands for. What is dead in its queue counts for nothing, and what no
-- later answer can need is forgotten.
use Rattle.std.specs.Prelude.{◌≡◌, ℕ, ◌+◌, Bool, ◌&&◌, ◌==◌, nat_lt, if◌then◌else◌, List, [], ◌∷◌}
use Rattle.std.specs.Prelude.{map, filter, length, Option, Some, None}
use Rattle.list_members.specs.Membership.{IsIn}
use Rattle.life_table.specs.LifeTable.{LifeTable, greatest_life}
use Rattle.uplink_frame.specs.declared.station.StationId.{StationId}
use Rattle.picture_core.specs.Key.{Key}
use Rattle.ground_core.specs.Item.{Item, Segment, is_segmented, end_of}
use Rattle.ground_core.specs.History.{Event, items}
use Rattle.ground_core.specs.Airing.{has_key, log, waiting_segments}
use Rattle.ground_core.specs.Broadcast.{IsHistory}
pub use Rattle.ground_core.specs.OnAir.{history_clock, history_moment, IsOnAir}
use Rattle.ground_core.specs.Piece.{Piece, Latest, IsLastOrEnded, ArePlaced, piece_of, live_by}
use Rattle.ground_core.specs.Views.{latest_at, count_at, pieces_in}
use Rattle.ground_core.specs.declared.ground.Ground.{Ground}

-- the last item with a key, as far as it counts
abbrev pub latest_of_item : Item → Latest
latest_of_item item =
    record { version = item.weather.version; serial = item.serial; until = end_of item.weather }

abbrev pub latest_after : Key → List Item → Option Latest → Option Latest
latest_after key [] before = before
latest_after key (item ∷ later) before =
    latest_after key later (if has_key key item then Some (latest_of_item item) else before)

abbrev pub latest_of : List Item → Key → Option Latest
latest_of all key = latest_after key all None

-- the items in segments of a version and a product
abbrev pub is_filed : ℕ → ℕ → Item → Bool
is_filed version product item =
    is_segmented item.weather && (item.weather.version == version)
    && (item.weather.product == product)

-- a piece of a segment that was given
pub record IsOfLog (table : LifeTable) (station : StationId) (history : List Event)
    (p : Piece) : Type 0 where
  pub segment : Segment
  pub given : IsIn segment (map (λ t. t.segment) (log table station history))
  pub piece_is : p ≡ piece_of segment

-- Under a table and a station: the clock is the moment of the last event. Of each key its last item
-- is kept, or nothing once the life of that is over; what is kept of a key is of an item that has a
-- place in the queue. How many items in segments a version and a product had is kept until the
-- version and the greatest life have passed. The queue has pieces of segments that were given, and
-- what is live of it is what waits, in its order.
pub record StandsFor (table : LifeTable) (station : StationId) (sender : Ground)
    (history : List Event) : Type 0 where
  pub is_history : IsHistory table station history
  pub table_is : sender.table ≡ table
  pub station_is : sender.station ≡ station
  pub clock_is : sender.clock ≡ history_clock history
  pub given_is : sender.given ≡ length (items table station history)
  pub newest_is : (key : Key)
      → IsLastOrEnded (history_moment history) (latest_of (items table station history) key)
      (latest_at sender.newest key)
  pub files_are : (version product : ℕ)
      → count_at sender.files version product
      ≡ (if nat_lt (history_moment history) (version + greatest_life table)
      then length (filter (is_filed version product) (items table station history))
      else 0)
  pub placed : ArePlaced (latest_at sender.newest) (pieces_in sender.line)
  pub of_log : (p : Piece) → IsIn p (pieces_in sender.line) → IsOfLog table station history p
  pub line_is : filter (live_by (latest_at sender.newest) (history_moment history))
      (pieces_in sender.line)
      ≡ map piece_of (waiting_segments (items table station history) (log table station history)
      (history_moment history))
